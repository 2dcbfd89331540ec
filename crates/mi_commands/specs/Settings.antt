-- The settings of a build.
use Rattle.std.specs.Prelude.{ℕ, List, Option}
use Rattle.std.specs.Option.{option_copied}
use Rattle.mi_reloc.specs.declared.building.Settings.{Settings as BuildSettings}

-- the name of the entry word or none, the size of the region in bytes, and how many instructions the sources may take
pub record Settings : Type 0 where
  pub entry : Option (List ℕ)
  pub size : ℕ
  pub turns : ℕ

-- the settings that a build is given, as bytes
abbrev pub settings_in_bytes : BuildSettings → Settings
settings_in_bytes settings = record { entry = option_copied settings.entry; size = settings.size; turns = settings.turns }
