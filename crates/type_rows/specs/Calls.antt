-- Calls and constructors (JVMS 4.10.1.9).
use Rattle.std.specs.Prelude.{ℕ, ◌||◌, not, Bool, false, List, [], ◌∷◌, map, reverse, Option, Some, None, slice_get, Result, Ok, Err, if◌then◌else◌}
use Rattle.std.specs.List.{list_any}
use Rattle.class_model.specs.declared.types.JType.{JType}
use Rattle.class_model.specs.declared.types.MethodDesc.{MethodDesc}
use Rattle.class_model.specs.declared.types.MethodRef.{MethodRef}
use Rattle.class_model.specs.declared.insn.Insn.{Insn}
use Rattle.class_model.specs.declared.insn.Insn.TheVariants.{New}
use Rattle.class_model.specs.declared.insn.InvokeKind.{InvokeKind}
use Rattle.class_model.specs.declared.insn.InvokeKind.TheVariants.{Virtual, Special, Static, Interface}
use Rattle.class_model.specs.declared.class.VType.{VType}
use Rattle.class_model.specs.declared.class.VType.TheVariants.{Top, UninitThis, Ref, Uninit}
use Rattle.set_lookups.specs.Above.{same_name}
use Rattle.set_lookups.specs.Same.{same_type}
use Rattle.class_set.specs.Assignable.{class_type, type_of, is_uninit_this, is_uninit}
use Rattle.type_rows.specs.declared.state.TypeState.{TypeState}
use Rattle.type_rows.specs.declared.rule.VerifyRule.{VerifyRule}
use Rattle.type_rows.specs.declared.rule.VerifyRule.TheVariants.{Operand, Init}
use Rattle.type_rows.specs.Method.{Method, init_name}
use Rattle.type_rows.specs.State.{state, on_ok, need}
use Rattle.type_rows.specs.Operands.{room, pop, pops, gives}

-- the arguments that a call takes, the last one on top
abbrev pub arguments : MethodDesc → List VType
arguments desc = map type_of (reverse desc.params)

-- the same object that is not initialised
abbrev pub is_same_uninit : VType → VType → Bool
is_same_uninit UninitThis ty = is_uninit_this ty
is_same_uninit (Uninit at) ty = is_uninit at ty
is_same_uninit _ ty = false

abbrev pub turned : VType → VType → VType → VType
turned old new ty = if is_same_uninit old ty then new else ty

-- each place that holds the object gets another type
abbrev pub replaced : VType → VType → List VType → List VType
replaced old new types = map (turned old new) types

abbrev pub own_type : Method → JType
own_type m = class_type m.class.name

abbrev pub is_super : Option (List ℕ) → JType → Bool
is_super None ty = false
is_super (Some name) ty = same_type (class_type name) ty

-- the class of the method or its superclass
abbrev pub is_own_or_super : Method → JType → Bool
is_own_or_super m ty = same_type (own_type m) ty || is_super m.class.super_name ty

abbrev pub is_new_of : JType → Option Insn → Bool
is_new_of ty (Some (New class)) = same_type (class_type class) ty
is_new_of ty _ = false

-- what the object of a constructor's call is afterwards: the constructor is one of this class or its superclass for `this`, and one of
-- the class that was made for another object
abbrev pub initialised : Method → JType → VType → Result VType VerifyRule
initialised m class UninitThis = need (is_own_or_super m class) Init (Ok (Ref (own_type m)))
initialised m class (Uninit at) = need (is_new_of class (slice_get m.code.insns at)) Init (Ok (type_of class))
initialised m class _ = Err Operand

-- a constructor's call, behind its arguments
abbrev pub row_init : Method → MethodRef → List VType → List VType → Result TypeState VerifyRule
row_init m target locals [] = Err Operand
row_init m target locals (ty ∷ stack) =
    on_ok (initialised m target.class ty) (λ new. Ok (state (replaced ty new locals) (replaced ty new stack)))

-- a call on an object of a class, behind its arguments
abbrev pub row_receiver : Method → JType → Option JType → List VType → List VType → Result TypeState VerifyRule
row_receiver m class result locals stack = on_ok (pop m (type_of class) stack) (λ rest. gives m result locals rest)

abbrev pub row_special : Method → MethodRef → List VType → List VType → Result TypeState VerifyRule
row_special m target locals stack =
    if same_name target.name init_name then row_init m target locals stack else row_receiver m (own_type m) target.desc.result locals stack

-- a call, behind its arguments
abbrev pub row_called : Method → InvokeKind → MethodRef → List VType → List VType → Result TypeState VerifyRule
row_called m Virtual target locals stack = row_receiver m target.class target.desc.result locals stack
row_called m Interface target locals stack = row_receiver m target.class target.desc.result locals stack
row_called m Special target locals stack = row_special m target locals stack
row_called m Static target locals stack = gives m target.desc.result locals stack

abbrev pub row_invoke : Method → InvokeKind → MethodRef → TypeState → Result TypeState VerifyRule
row_invoke m kind target s = on_ok (pops m (arguments target.desc) s.stack) (λ rest. row_called m kind target s.locals rest)

-- a new object: older ones of the same instruction are gone from the locals, and there is none on the stack
abbrev pub row_new : Method → ℕ → TypeState → Result TypeState VerifyRule
row_new m at s =
    on_ok (room m (state (replaced (Uninit at) Top s.locals) (Uninit at ∷ s.stack))) (λ new. need (not (list_any (is_uninit at) s.stack)) Init (Ok new))
