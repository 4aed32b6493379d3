-- The texts of the kinds that refusals have, as bytes. The texts are this project's own.
use Rattle.std.specs.Prelude.{ℕ, List, [], ◌++◌, codes}
use Rattle.std.specs.Fmt.{decimal}
use Rattle.modified_utf8.specs.Text.{text_bytes}
use Rattle.class_input.specs.declared.bad_class.BadKind.{BadKind}
use Rattle.class_input.specs.declared.bad_class.BadKind.TheVariants.{Short, Magic, PoolTag, PoolCount, PoolIndex, PoolKind, Text, Descriptor, Code, Operand, Target, Frame, AttrLength, Twice, CodeLength, Trailing}
use Rattle.profile_check.specs.declared.profile.ProfileKind.{ProfileKind}
use Rattle.profile_check.specs.declared.profile.ProfileKind.TheVariants as kinds
use Rattle.class_set.specs.declared.fault.SetFault.{SetFault}
use Rattle.class_set.specs.declared.fault.SetFault.TheVariants as faults
use Rattle.type_rows.specs.declared.rule.VerifyRule.{VerifyRule}
use Rattle.type_rows.specs.declared.rule.VerifyRule.TheVariants as rules

-- what is wrong at a place of a class file
abbrev pub kind_text : BadKind → List ℕ
kind_text Short = codes "short"
kind_text Magic = codes "magic"
kind_text (PoolTag n) = codes "pool tag " ++ decimal n
kind_text PoolCount = codes "pool count"
kind_text (PoolIndex n) = codes "pool index " ++ decimal n
kind_text (PoolKind n) = codes "pool kind " ++ decimal n
kind_text Text = codes "text"
kind_text Descriptor = codes "descriptor"
kind_text (Code n) = codes "opcode " ++ decimal n
kind_text Operand = codes "operand"
kind_text Target = codes "target"
kind_text (Frame n) = codes "frame " ++ decimal n
kind_text AttrLength = codes "attribute length"
kind_text Twice = codes "twice"
kind_text CodeLength = codes "code length"
kind_text Trailing = codes "trailing"

-- by which row a class is out of the profile. A name stands as in a class file, in modified UTF-8 (JVMS 4.4.7)
abbrev pub profile_text : ProfileKind → List ℕ
profile_text (kinds.Version major) = codes "version " ++ decimal major
profile_text kinds.ClassFlags = codes "class flags"
profile_text kinds.FieldFlags = codes "field flags"
profile_text kinds.MethodFlags = codes "method flags"
profile_text kinds.FloatType = codes "float type"
profile_text kinds.BadName = codes "bad name"
profile_text (kinds.Reserved name) = codes "reserved " ++ text_bytes name
profile_text kinds.CodeShape = codes "code shape"
profile_text kinds.Native = codes "native"
profile_text kinds.InterfaceMethod = codes "interface method"
profile_text kinds.Initializer = codes "initializer"
profile_text kinds.Constant = codes "constant"
profile_text kinds.TwiceMember = codes "twice"
profile_text kinds.Params = codes "parameters"
profile_text kinds.Super = codes "super"
profile_text kinds.OutName = codes "out name"
profile_text kinds.ArrayMember = codes "array member"

-- why classes are no closed set, with the name or the reference that is told; want of memory is told by another line
abbrev pub set_text : SetFault → List ℕ
set_text (faults.Duplicate name) = codes "duplicate " ++ text_bytes name
set_text (faults.Missing name) = codes "missing " ++ text_bytes name
set_text (faults.Cycle name) = codes "cycle " ++ text_bytes name
set_text (faults.FinalSuper name) = codes "final super " ++ text_bytes name
set_text (faults.Core name) = codes "core " ++ text_bytes name
set_text (faults.Unresolved text) = codes "unresolved " ++ text_bytes text
set_text (faults.WrongKind text) = codes "wrong kind " ++ text_bytes text
set_text (faults.Abstract name) = codes "abstract " ++ text_bytes name
set_text faults.Memory = []

-- the rule of the type check that fails
abbrev pub rule_text : VerifyRule → List ℕ
rule_text rules.NoFrame = codes "no frame"
rule_text rules.Merge = codes "merge"
rule_text rules.Shape = codes "shape"
rule_text rules.Handler = codes "handler"
rule_text rules.Local = codes "local"
rule_text rules.Operand = codes "operand"
rule_text rules.Room = codes "room"
rule_text rules.Branch = codes "branch"
rule_text rules.Init = codes "init"
rule_text rules.Result = codes "result"
rule_text rules.End = codes "end"
