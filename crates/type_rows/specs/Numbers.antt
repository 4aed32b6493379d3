-- Types of numbers (JVMS 4.10.1.9).
use Rattle.class_model.specs.declared.insn.Width.{Width}
use Rattle.class_model.specs.declared.insn.Width.TheVariants as widths
use Rattle.class_model.specs.declared.insn.Conv.{Conv}
use Rattle.class_model.specs.declared.insn.Conv.TheVariants.{IntLong, LongInt, IntByte, IntChar, IntShort}
use Rattle.class_model.specs.declared.class.VType.{VType}
use Rattle.class_model.specs.declared.class.VType.TheVariants.{Int, Long}

abbrev pub number_type : Width → VType
number_type widths.Int = Int
number_type widths.Long = Long

-- what a conversion takes
abbrev pub converted_from : Conv → VType
converted_from IntLong = Int
converted_from LongInt = Long
converted_from IntByte = Int
converted_from IntChar = Int
converted_from IntShort = Int

-- what a conversion gives
abbrev pub converted_to : Conv → VType
converted_to IntLong = Long
converted_to LongInt = Int
converted_to IntByte = Int
converted_to IntChar = Int
converted_to IntShort = Int
