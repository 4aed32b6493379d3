-- What the numbers of a linked set stand for.
use Rattle.std.specs.Prelude.{ℕ, List, [], None, map, slice_get, unwrap_or}
use Rattle.class_model.specs.declared.types.JType.{JType}
use Rattle.class_model.specs.declared.class.ClassDef.{ClassDef}
use Rattle.run_state.specs.State.{Method}
use Rattle.run_state.specs.Texts.{class_type}
use Rattle.run_state.specs.SetLooks.{looks_of}
use Rattle.linked_code.specs.World.{World}
use Rattle.program_links.specs.Numbers.{Numbers}
use Rattle.program_links.specs.Methods.{set_methods}
use Rattle.program_links.specs.Past.{past}

-- a name that no class of a set has
abbrev pub no_name : List ClassDef → List ℕ
no_name set = past (map (λ (class : ClassDef). class.name) set)

-- the name of the class of a number
abbrev pub name_at : List ClassDef → ℕ → List ℕ
name_at set n = unwrap_or (slice_get (map (λ (class : ClassDef). class.name) set) n) (no_name set)

-- a method that has nothing
abbrev pub no_method : List ClassDef → Method
no_method set = record {
  class = no_name set;
  name = [];
  desc = record { params = []; result = None };
  params = 0;
  locals = 0;
  code = [];
  handlers = [];
  native = None;
  begins = None;
}

-- the method of a number
abbrev pub method_shown : List ClassDef → ℕ → Method
method_shown set n = unwrap_or (slice_get (set_methods set) n) (no_method set)

-- the type of a number
abbrev pub type_shown : List ClassDef → Numbers → ℕ → JType
type_shown set t n = unwrap_or (slice_get t.types n) (class_type (no_name set))

-- The numbers of a set with its tables. The plain machine's tags say nothing and keep what they mark. A number past the last
-- class, method, type or text stands for one that the set does not have.
abbrev pub world_of : {T : Type 0} → List ClassDef → List ℕ → Numbers → World T
world_of set main t = record {
  marked = λ d x. x;
  entered = λ d xs. [];
  looks = looks_of set main;
  method = method_shown set;
  class = name_at set;
  ty = type_shown set t;
  text = λ n. unwrap_or (slice_get t.texts n) (past t.texts);
}
