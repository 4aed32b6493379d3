-- What stays while the tables grow further.
use Rattle.std.proofs.Common.{◌≡◌, List, length, Some}
use Rattle.std.specs.Prelude.{slice_get}
use Rattle.class_model.specs.declared.types.Primitive.TheVariants as primitive
use Rattle.class_model.specs.declared.class.ClassDef.{ClassDef}
use Rattle.run_state.specs.Objects.{primitive_array}
use Rattle.run_state.specs.Texts.{string_array}
use Rattle.program_links.specs.declared.assembly.Code.{Code}
use Rattle.program_links.specs.Numbers.{Numbers, Grows}
use Rattle.program_links.specs.Each.{EachTo, Numbered}
use Rattle.program_links.specs.Methods.{set_methods}
use Rattle.program_links.specs.MethodTo.{MethodTo}
use Rattle.program_links.specs.RowTo.{IsClassType}
use Rattle.program_links.specs.LinkTo.{CodeOf}
use Rattle.program_links.proofs.Growing.{grown_further}
use Rattle.program_links.proofs.CanLinked.{methods_grow}
use Rattle.program_links.proofs.Classed.{types_grow}

pub code_of : (set : List ClassDef) (a b c d : Numbers) (code : Code) → EachTo (MethodTo set a) (set_methods set) code.methods (length (set_methods set)) → Grows a b → Numbered (IsClassType b set) code.types (length set) → Grows b c → slice_get c.types code.arguments ≡ Some string_array → Grows c d → slice_get d.types code.chars ≡ Some (primitive_array primitive.Char) → CodeOf set d code
code_of set a b c d code methods f types g arguments h chars =
    let last = grown_further b c d g h in
    record {
      methods = methods_grow set a d (set_methods set) code.methods (length (set_methods set)) (grown_further a b d f last) methods;
      types = types_grow set b d code.types (length set) last types;
      arguments = h.types code.arguments string_array arguments;
      chars = chars;
    }
