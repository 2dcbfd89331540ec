-- The two builds that the theorem is about: the fresh build at a pair, and the build over origins, at none.
use Rattle.std.specs.Prelude.{ℕ, List, Option}
use Rattle.std.specs.Option.{option_copied}
use Rattle.mi_model.specs.declared.Form.{Form}
use Rattle.mi_model.specs.declared.OriginByte.{OriginByte}
use Rattle.mi_model.specs.declared.Pair.{Pair}
use Rattle.mi_model.specs.Plain.{plain_ops}
use Rattle.mi_model.specs.OriginOps.{origin_ops}
use Rattle.mi_model.specs.Kernel.{whole_kernel}
use Rattle.mi_model.specs.Build.{Build, fresh_build}
use Rattle.mi_reloc.specs.declared.building.Settings.{Settings}

abbrev pub plain_build : Pair → Settings → (texts : List (List ℕ)) → Build ℕ ℕ
plain_build pair settings texts = fresh_build whole_kernel (plain_ops pair settings.size) settings.size texts (option_copied settings.entry) settings.turns

abbrev pub origin_build : Settings → (texts : List (List ℕ)) → Build Form OriginByte
origin_build settings texts = fresh_build whole_kernel (origin_ops settings.size) settings.size texts (option_copied settings.entry) settings.turns
