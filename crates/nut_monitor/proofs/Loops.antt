-- Walks over the MONITOR lines.
use Rattle.std.proofs.Common.{◌≡◌, ℕ, zero, suc, ◌+◌, ◌<◌, ◌||◌, List, [], ◌∷◌, ◌++◌, map, drop, length, refl, sym, ◌∙◌, ap, slice_set, slice_index_or, arith}
use Rattle.nut_conf.specs.declared.monitor.Monitored.{Monitored}
use Rattle.nut_conf.specs.declared.notice.Notice.TheVariants as kinds
use Rattle.nut_monitor_spec.specs.declared.Phase.{Phase}
use Rattle.std.specs.List.{list_any}
use Rattle.nut_monitor_spec.specs.Configuration.{Configuration, Line, has_primary, line_of}
use Rattle.nut_monitor_spec.specs.Content.{Watch}
use Rattle.nut_monitor_spec.specs.Decision.{told, when}
use Rattle.nut_monitor_spec.specs.machine.Machine.{all_asked, all_silent, asked_next, is_silent, silences_told, silent}

pub suc_is : (n : ℕ) → suc n ≡ n + 1
suc_is n = omega arith

-- ---- the first n lines asked

abbrev pub front_asked : (Line → Watch → Watch) → ℕ → List Monitored → List Watch → List Watch
front_asked f (suc n) (m ∷ ms) [] = []
front_asked f (suc n) (m ∷ ms) (w ∷ ws) = f (line_of m) w ∷ front_asked f n ms ws
front_asked f _ _ ws = ws

pub asked_more : (f : Line → Watch → Watch) (n : ℕ) (ms : List Monitored) (ws : List Watch) (m : Monitored) (w : Watch) → n < length ms → n < length ws → m ≡ slice_index_or ms n m
    → w ≡ slice_index_or (front_asked f n ms ws) n w → slice_set (front_asked f n ms ws) n (f (line_of m) w) ≡ front_asked f (suc n) ms ws
asked_more f zero (x ∷ ms) (y ∷ ws) m w lm lw im iw = ap (λ v. f (line_of v) w ∷ ws) im ∙ ap (λ v. f (line_of x) v ∷ ws) iw
asked_more f (suc n) (x ∷ ms) (y ∷ ws) m w lm lw im iw = ap (λ vs. f (line_of x) y ∷ vs) (asked_more f n ms ws m w (omega arith) (omega arith) im iw)
asked_more f n _ _ m w lm lw im iw = absurd (omega arith)

pub asked_whole : (c : Configuration) (k : ℕ) (p : Phase) (n : ℕ) (ms : List Monitored) (ws : List Watch) → n ≡ length ws → length ws ≡ length ms
    → front_asked (asked_next c k p) n ms ws ≡ all_asked c k p (map line_of ms) ws
asked_whole c k p zero (m ∷ ms) (w ∷ ws) e same = absurd (omega arith)
asked_whole c k p (suc n) (m ∷ ms) (w ∷ ws) e same = ap (λ vs. asked_next c k p (line_of m) w ∷ vs) (asked_whole c k p n ms ws (omega arith) (omega arith))
asked_whole c k p _ _ _ e same = refl

pub length-asked : (f : Line → Watch → Watch) (n : ℕ) (ms : List Monitored) (ws : List Watch) → length (front_asked f n ms ws) ≡ length ws
length-asked f (suc n) (m ∷ ms) (w ∷ ws) = ap suc (length-asked f n ms ws)
length-asked f _ _ _ = refl

-- ---- the first n lines silenced

abbrev pub front_silent : (Watch → Watch) → ℕ → List Watch → List Watch
front_silent f zero ws = ws
front_silent f (suc n) [] = []
front_silent f (suc n) (w ∷ ws) = f w ∷ front_silent f n ws

pub silent_more : (f : Watch → Watch) (n : ℕ) (ws : List Watch) (w : Watch) → n < length ws → w ≡ slice_index_or (front_silent f n ws) n w → slice_set (front_silent f n ws) n (f w) ≡ front_silent f (suc n) ws
silent_more f n [] w lt is = absurd (omega arith)
silent_more f zero (x ∷ ws) w lt is = ap (λ y. f y ∷ ws) is
silent_more f (suc n) (x ∷ ws) w lt is = ap (λ ys. f x ∷ ys) (silent_more f n ws w (omega arith) is)

pub silent_whole : (c : Configuration) (k n : ℕ) (ws : List Watch) → n ≡ length ws → front_silent (silent c k) n ws ≡ all_silent c k ws
silent_whole c k zero [] e = refl
silent_whole c k (suc n) [] e = refl
silent_whole c k zero (w ∷ ws) e = absurd (omega arith)
silent_whole c k (suc n) (w ∷ ws) e = ap (λ ys. silent c k w ∷ ys) (silent_whole c k n ws (omega arith))

pub length-silent : (f : Watch → Watch) (n : ℕ) (ws : List Watch) → length (front_silent f n ws) ≡ length ws
length-silent f (suc n) (w ∷ ws) = ap suc (length-silent f n ws)
length-silent f _ _ = refl

pub told_step : (c : Configuration) (k j i : ℕ) (f : Watch → Watch) (ws : List Watch) (w : Watch) → i < length ws → w ≡ slice_index_or (front_silent f i ws) i w
    → silences_told c k j (drop i ws) ≡ when (is_silent c k w) (told kinds.Nocomm j) ++ silences_told c k (suc j) (drop (suc i) ws)
told_step c k j i f [] w lt is = absurd (omega arith)
told_step c k j zero f (x ∷ ws) w lt is = ap (λ y. when (is_silent c k y) (told kinds.Nocomm j) ++ silences_told c k (suc j) ws) (sym is)
told_step c k j (suc i) f (x ∷ ws) w lt is = told_step c k j i f ws w (omega arith) is

pub primaries : (ms : List Monitored) → list_any (λ m. (line_of m).primary) ms ≡ has_primary (map line_of ms)
primaries [] = refl
primaries (m ∷ ms) = ap (λ b. (line_of m).primary || b) (primaries ms)
