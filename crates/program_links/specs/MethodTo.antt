-- A method that is linked, with tables that may still grow.
use Rattle.std.specs.Prelude.{◌≡◌, ℕ, ℤ, List, Option, Some, None, length, slice_get}
use Rattle.class_model.specs.declared.class.Handler.{Handler}
use Rattle.class_model.specs.declared.class.ClassDef.{ClassDef}
use Rattle.set_lookups.specs.Above.{find_class}
use Rattle.run_state.specs.State.{Method}
use Rattle.run_state.specs.Natives.{Native}
use Rattle.run_state.specs.Calls.{narrowed_result}
use Rattle.linked_code.specs.declared.native.Native.{Native as LinkedNative}
use Rattle.linked_code.specs.declared.program.Handler.{Handler as LinkedHandler}
use Rattle.linked_code.specs.declared.program.Method.{Method as LinkedMethod}
use Rattle.linked_code.specs.Kept.{kept_by}
use Rattle.linked_code.specs.Links.{native_of}
use Rattle.program_links.specs.Numbers.{Numbers}
use Rattle.program_links.specs.Each.{EachTo}
use Rattle.program_links.specs.CodeSoFar.{CodeTo}

-- a name that has a number, where there is one
abbrev pub NameTo : List ClassDef → Option (List ℕ) → Option ℕ → Type 0
NameTo set None None = Unit {0}
NameTo set (Some name) (Some n) = find_class set name ≡ Some n
NameTo set None (Some n) = ⊥
NameTo set (Some name) None = ⊥

pub record HandlerTo (set : List ClassDef) (h : Handler) (k : LinkedHandler) : Type 0 where
  pub start : h.start ≡ k.start
  pub end : h.end ≡ k.end
  pub target : h.target ≡ k.target
  pub caught : NameTo set h.caught k.caught

abbrev pub NativeTo : Option Native → Option LinkedNative → Type 0
NativeTo None None = Unit {0}
NativeTo (Some n) (Some l) = n ≡ native_of l
NativeTo None (Some l) = ⊥
NativeTo (Some n) None = ⊥

pub record MethodTo (set : List ClassDef) (t : Numbers) (d : Method) (m : LinkedMethod) : Type 0 where
  pub class : find_class set d.class ≡ Some m.class
  pub params : d.params ≡ m.params
  pub locals : d.locals ≡ m.locals
  pub code : CodeTo set t d.code m.code (length d.code)
  pub handlers : EachTo (HandlerTo set) d.handlers m.handlers (length d.handlers)
  pub native : NativeTo d.native m.native
  pub begins : NameTo set d.begins m.begins
  pub result : (v : ℤ) → narrowed_result d.desc.result v ≡ kept_by m.narrowing v

-- the classes that handlers catch are in the set
abbrev pub IsNamed : List ClassDef → Option (List ℕ) → Type 0
IsNamed set None = Unit {0}
IsNamed set (Some name) = (n : ℕ) × (find_class set name ≡ Some n)

abbrev pub AreNamed : List ClassDef → List Handler → Type 0
AreNamed set handlers = (k : ℕ) (h : Handler) → slice_get handlers k ≡ Some h → IsNamed set h.caught
