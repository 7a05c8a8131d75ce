-- The settings of a send, as C gives them. Definitions only.
use Rattle.std.specs.Prelude.{ℕ, ◌≡◌, Bool, cond}
use Rattle.sender.specs.declared.Settings.{Settings}
use Rattle.sender.specs.declared.Settings.TheVariants as settings

-- `count` messages over n packets each, or `count` spares, and then n is not looked at (rule 24.7)
abbrev pub settings_of : Bool → ℕ → ℕ → Settings
settings_of parity count n = cond parity (settings.Parity n count) (settings.Spares count)

pub record SettingsTold (parity : Bool) (count n : ℕ) (r : Settings) : Type 0 where
  pub is : r ≡ settings_of parity count n
