-- The natives, as references name them and as frames hold them.
use Rattle.std.specs.Prelude.{ℕ, [], Some, None, false}
use Rattle.class_model.specs.declared.types.MethodRef.{MethodRef}
use Rattle.run_state.specs.Texts.{class_type}
use Rattle.run_state.specs.Natives.{Native, class_of, name_of, desc_of}
use Rattle.run_state.specs.State.{Method}

abbrev pub ref_of : Native → MethodRef
ref_of native = record { class = class_type (class_of native); name = name_of native; desc = desc_of native; in_interface = false }

-- a native that takes so many words
abbrev pub callee_of : Native → (params : ℕ) → Method
callee_of native params = record {
  class = class_of native;
  name = name_of native;
  desc = desc_of native;
  params = params;
  locals = 0;
  code = [];
  handlers = [];
  native = Some native;
  begins = None;
}
