-- The builds of the program.
use Rattle.std.specs.Prelude.{ℕ, List}
use Rattle.mi_model.specs.declared.Form.{Form}
use Rattle.mi_model.specs.declared.OriginByte.{OriginByte}
use Rattle.mi_model.specs.declared.Pair.{Pair}
use Rattle.mi_model.specs.Plain.{plain_ops}
use Rattle.mi_model.specs.OriginOps.{origin_ops}
use Rattle.mi_model.specs.Kernel.{whole_kernel}
use Rattle.mi_model.specs.Build.{Build, fresh_build}
use Rattle.mi_commands.specs.Settings.{Settings}

-- the fresh build of these texts at a pair, with these settings
unfoldable pub build_at : Pair → Settings → (texts : List (List ℕ)) → Build ℕ ℕ
build_at pair settings texts = fresh_build whole_kernel (plain_ops pair settings.size) settings.size texts settings.entry settings.turns

-- the build of these texts that the program makes: over origins, at no pair
unfoldable pub build_over_origins : Settings → (texts : List (List ℕ)) → Build Form OriginByte
build_over_origins settings texts = fresh_build whole_kernel (origin_ops settings.size) settings.size texts settings.entry settings.turns
