-- The class of reports. This project's own.
use Rattle.std.specs.Prelude.{[], ◌∷◌, Some, codes}
use Rattle.lists.specs.Texts.{units_of}
use Rattle.class_model.specs.declared.class.ClassDef.{ClassDef}
use Rattle.small_base.specs.Members.{object_name, native_method}
use Rattle.small_base.specs.Base.{class_with}
use Rattle.first_form.specs.Natives.{report_name, takes_three}

-- phosphor/Report, which is final: tag(III)V
unfoldable pub report_class : ClassDef
report_class = class_with 0x0031 report_name (Some object_name) [] (native_method (units_of (codes "tag")) takes_three ∷ [])
