-- The first form: a class whose one method is a `main` of straight-line code on ints. This project's own.
use Rattle.std.specs.Prelude.{◌≡◌, ℕ, ◌≤◌, List, [], ◌∷◌, ◌++◌, Option, Some, None, ◌⊎◌, codes}
use Rattle.lists.specs.Texts.{units_of}
use Rattle.class_model.specs.declared.types.MethodDesc.{MethodDesc}
use Rattle.class_model.specs.declared.insn.Insn.{Insn}
use Rattle.class_model.specs.declared.insn.Insn.TheVariants.{Return}
use Rattle.class_model.specs.declared.class.CodeDef.{CodeDef}
use Rattle.class_model.specs.declared.class.MethodDef.{MethodDef}
use Rattle.class_model.specs.declared.class.ClassDef.{ClassDef}
use Rattle.class_limits.specs.Sizes.{code_size}
use Rattle.first_form.specs.declared.frame.IntFrame.{IntFrame}
use Rattle.profile_check.specs.declared.profile.Names.{Names}
use Rattle.profile_check.specs.declared.profile.Names.TheVariants.{Source, Written}
use Rattle.small_base.specs.Members.{object_name}
use Rattle.first_form.specs.Naming.{IsUserName}
use Rattle.first_form.specs.Typing.{words_type, first_frame, Runs}

-- the flags of such a class (JVMS 4.1): ACC_PUBLIC, ACC_SUPER, or both
abbrev pub IsPlainClass : (flags : ℕ) → Type 0
IsPlainClass flags = (flags ≡ 0x0001) ⊎ (flags ≡ 0x0020) ⊎ (flags ≡ 0x0021)

-- everything but the name and the methods
pub record HasFormHeader (class : ClassDef) : Type 0 where
  pub major_from : 50 ≤ class.major
  pub major_to : class.major ≤ 52
  pub flags : IsPlainClass class.flags
  pub super_name : class.super_name ≡ Some object_name
  pub no_interface : class.interfaces ≡ []
  pub no_field : class.fields ≡ []
  pub no_source : class.source ≡ None
  pub no_inner : class.inner ≡ []

-- the descriptor ([Ljava/lang/String;)V
abbrev pub main_desc : MethodDesc
main_desc = record { params = words_type ∷ []; result = None }

-- public static void main(String[]), with the code that it has: ACC_PUBLIC and ACC_STATIC (JVMS 4.6)
abbrev pub main_with : Option CodeDef → MethodDef
main_with code = record { flags = 0x0009; name = units_of (codes "main"); desc = main_desc; throws = []; code = code }

abbrev pub main_method : CodeDef → MethodDef
main_method code = main_with (Some code)

-- code that types from its first frame to its last instruction, which is its one return
pub record IsStraight (names : Names) (code : CodeDef) : Type 0 where
  pub no_handler : code.handlers ≡ []
  pub no_frame : code.frames ≡ []
  pub no_line : code.lines ≡ []
  pub local_of_words : 1 ≤ code.max_locals
  pub body : List Insn
  pub returns : code.insns ≡ body ++ Return None ∷ []
  pub last : IntFrame
  pub runs : Runs names code.max_stack body (first_frame code.max_locals) last

-- what a user's class keeps to besides, so that no limit can be passed as it is rewritten
pub record IsSmall (name : List ℕ) (code : CodeDef) : Type 0 where
  pub named : IsUserName name
  pub few_bytes : code_size code ≤ 1000
  pub few_locals : code.max_locals ≤ 100
  pub few_words : code.max_stack ≤ 100

abbrev pub IsKept : Names → List ℕ → CodeDef → Type 0
IsKept Source name code = IsSmall name code
IsKept Written name code = Unit {0}

pub record FormOne (names : Names) (class : ClassDef) : Type 0 where
  pub header : HasFormHeader class
  pub code : CodeDef
  pub only_main : class.methods ≡ main_method code ∷ []
  pub straight : IsStraight names code
  pub kept : IsKept names class.name code
