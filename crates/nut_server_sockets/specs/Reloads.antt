-- What a server is to take up, and that its reloader gave it.
use Rattle.std.specs.Prelude.{◌≡◌, ◌⊎◌, Option, Some, None}
use Rattle.nut_server_loop.specs.declared.types.Next.{Next}
use Rattle.nut_server_loop.specs.declared.types.Next.TheVariants.{Reload}
use Rattle.nut_server_spec.specs.Configuration.{Configuration}

-- A look at the reloader gave the configuration that is to be taken up. If none is, a look gave none, or there was no look.
abbrev pub IsGiven : {L : Type 0} → (L → Option Configuration → L → Type 0) → L → Next → L → Type 0
IsGiven gave old (Reload config) new = gave old (Some config.value) new
IsGiven gave old n new = gave old None new ⊎ (new ≡ old)
