-- For private functions, nothing here has to be believed: a UPS more.
use Rattle.std.specs.Prelude.{ℕ, List, [], ◌∷◌, ◌++◌, codes}
use Rattle.nut_conf.specs.Ups.{Shown}

-- the UPSes with one more at the end, which has this name, this description and the default driver and port
abbrev pub and_ups : List Shown → List ℕ → List ℕ → List Shown
and_ups before n d = before ++ record { name = n; driver = codes "dummy-ups"; port = []; description = d } ∷ []
