-- The instructions of code in their fixed spelling, which puts what they name into the constant pool as it goes. This
-- project's own rule, among the spellings that JVMS 6.5 leaves open.
use Rattle.std.specs.Prelude.{ℕ, List, zip, if◌then◌else◌}
use Rattle.class_model.specs.declared.insn.Insn.{Insn}
use Rattle.class_model.specs.declared.insn.Insn.TheVariants.{PushInt, PushLong, PushString, GetStatic, PutStatic, GetField, PutField, Invoke, New, ANewArray, CheckCast, InstanceOf, MultiNewArray}
use Rattle.opcode_table.specs.Writing.{spelling}
use Rattle.pool_names.specs.Adding.{Adding, ◌>>=◌, done, unspelled, spell_each}
use Rattle.pool_names.specs.Spelling.{spell_int, spell_long, spell_string, spell_class, spell_type, spell_field, spell_method}
use Rattle.class_limits.specs.Sizes.{CodeLayout, is_small_long}
use Rattle.insn_spelling.specs.Raw.{fits_i16, raw_of}
use Rattle.insn_spelling.specs.Conditions.{is_in_range}

-- the index of what an instruction names, and 0 where it is written without one
unfoldable pub index_of : Insn → Adding ℕ
index_of (PushInt n) = if fits_i16 n then done 0 else spell_int n
index_of (PushLong n) = if is_small_long n then done 0 else spell_long n
index_of (PushString units) = spell_string units
index_of (GetStatic field) = spell_field field
index_of (PutStatic field) = spell_field field
index_of (GetField field) = spell_field field
index_of (PutField field) = spell_field field
index_of (Invoke kind method) = spell_method method
index_of (New class) = spell_class class
index_of (ANewArray ty) = spell_type ty
index_of (CheckCast ty) = spell_type ty
index_of (InstanceOf ty) = spell_type ty
index_of (MultiNewArray ty dimensions) = spell_type ty
index_of _ = done 0

-- an instruction with the index of what it names
abbrev pub spell_indexed : CodeLayout → ℕ → Insn → ℕ → Adding (List ℕ)
spell_indexed layout pc insn index = if is_in_range insn then done (spelling pc (raw_of layout pc index insn)) else unspelled

-- an instruction at pc of code
unfoldable pub spell_insn : CodeLayout → ℕ → Insn → Adding (List ℕ)
spell_insn layout pc insn = do
  index ← index_of insn
  spell_indexed layout pc insn index

-- an instruction with the offset of its opcode
abbrev pub spell_placed : CodeLayout → ℕ × Insn → Adding (List ℕ)
spell_placed layout placed = spell_insn layout placed.0 placed.1

-- instructions one after the other, each at its offset
unfoldable pub spell_insns : CodeLayout → List Insn → Adding (List ℕ)
spell_insns layout insns = spell_each (spell_placed layout) (zip layout.starts insns)
