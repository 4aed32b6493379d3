-- A class that has its shape and passes no limit can be written.
use Rattle.std.proofs.Common.{◌≡◌, ◌∙◌, ℕ, ◌<◌, ◌≤◌, ◌^◌, List, [], ◌∷◌, ◌++◌, length, Option, Some, None, refl, sym, ap, subst}
use Rattle.std.specs.Prelude.{All, IfSome, option_to_list}
use Rattle.std.specs.List.{flat_map}
use Rattle.modified_utf8.specs.Text.{text_bytes}
use Rattle.class_model.specs.declared.class.Constant.{Constant}
use Rattle.class_model.specs.declared.class.Constant.TheVariants as constants
use Rattle.class_model.specs.declared.class.CodeDef.{CodeDef}
use Rattle.class_model.specs.declared.class.FieldDef.{FieldDef}
use Rattle.class_model.specs.declared.class.MethodDef.{MethodDef}
use Rattle.class_model.specs.declared.class.InnerRow.{InnerRow}
use Rattle.class_model.specs.declared.class.ClassDef.{ClassDef}
use Rattle.class_shape.specs.Shaped.{ShapedCode, ShapedField, ShapedMethod, SpellText, Shaped}
use Rattle.class_limits.specs.Texts.{name_texts, type_texts, desc_texts, code_texts, constant_texts, field_texts, method_texts, inner_texts, header_texts, source_texts, member_texts, attribute_texts, class_texts}
use Rattle.class_limits.specs.Counts.{count_of, code_counts, method_counts, header_counts, class_counts}
use Rattle.class_limits.specs.Lengths.{code_lengths, lengths_if, table_length, index_length, field_lengths, method_lengths, class_lengths}
use Rattle.class_limits.specs.Limits.{first, first_over, long_text, codes_in, bad_size, far_in_code, limit, text_limit, count_limit, code_limit, branch_limit, length_limit, first_limit}
use Rattle.pool_names.specs.Fits.{FitsText, FitsConstant}
use Rattle.class_spelling.specs.Writable.{FitsCount, EachFits, FitsBytes, WritableField, WritableMethod, WritableRow, Writable}
use Rattle.code_spelling.specs.Writable.{WritableCode}
use Rattle.class_encoding.proofs.Splitting.{Splits, or_none, map_none, over_splits, text_splits, size_splits, far_splits, each_none, if_none, short_one, few, good_size, none_far}

abbrev NoText : List (List ℕ) → Type 0
NoText texts = long_text texts ≡ None

abbrev NoCount : List ℕ → Type 0
NoCount counts = first_over 65535 counts ≡ None

abbrev NoLength : List ℕ → Type 0
NoLength lengths = first_over 4294967295 lengths ≡ None

-- ---- texts and counts

name_fits : (name : List ℕ) → NoText (name_texts name) → FitsText name
unfolding name_texts
name_fits name h = short_one (text_bytes name) h

each_name_fits : (names : List (List ℕ)) → NoText (flat_map name_texts names) → EachFits names
unfolding EachFits
each_name_fits names h = let each = each_none long_text text_splits name_texts names h in λ k d lt. name_fits _ (each k d lt)

some_fits : {A : Type 0} (P Q : A → Type 0) (o : Option A) → ((a : A) → P a → Q a) → IfSome o P → IfSome o Q
some_fits P Q None to h = tt
some_fits P Q (Some a) to h = to a h

optional_name_fits : (name : Option (List ℕ)) → NoText (flat_map name_texts (option_to_list name)) → IfSome name FitsText
optional_name_fits name h = some_fits (λ n. NoText (name_texts n)) FitsText name name_fits (if_none long_text text_splits name_texts name h)

count_fits : {A : Type 0} (xs : List A) → NoCount (count_of xs) → FitsCount xs
unfolding count_of
count_fits xs h = few (length xs) h

-- ---- members

constant_fits : (constant : Constant) → NoText (constant_texts constant) → FitsConstant constant
constant_fits (constants.Int n) h = tt
constant_fits (constants.Long n) h = tt
constant_fits (constants.Text text) h = name_fits text h

field_fits : (field : FieldDef) → ShapedField field → NoText (field_texts field) → WritableField field
field_fits field shaped h =
    let constant = flat_map constant_texts (option_to_list field.constant) in
    let both = text_splits.parts (name_texts field.name ++ type_texts field.ty) constant h in
    let front = text_splits.parts (name_texts field.name) (type_texts field.ty) both.0 in
    record {
      named = name_fits field.name front.0;
      typed = shaped;
      descriptor = name_fits _ front.1;
      constant = some_fits (λ c. NoText (constant_texts c)) FitsConstant field.constant constant_fits (if_none long_text text_splits constant_texts field.constant both.1);
    }

code_fits : (o : Option CodeDef) → IfSome o ShapedCode → NoText (flat_map code_texts (option_to_list o)) → NoCount (flat_map code_counts (option_to_list o)) → bad_size (option_to_list o) ≡ None → first far_in_code (option_to_list o) ≡ None
    → NoLength (flat_map code_lengths (option_to_list o)) → IfSome o WritableCode
code_fits None shaped texts counts size far lengths = tt
code_fits (Some code) shaped texts counts size far lengths = record {
  shaped = shaped;
  texts = (text_splits.parts (code_texts code) [] texts).0;
  counts = ((over_splits 65535).parts (code_counts code) [] counts).0;
  size = good_size code size;
  branches = none_far code far;
  lengths = ((over_splits 4294967295).parts (code_lengths code) [] lengths).0;
}

method_fits : (method : MethodDef) → ShapedMethod method → NoText (method_texts method) → NoCount (method_counts method) → bad_size (codes_in method) ≡ None → first far_in_code (codes_in method) ≡ None → NoLength (method_lengths method)
    → WritableMethod WritableCode method
method_fits method shaped texts counts size far lengths =
    let codes = option_to_list method.code in
    let head = name_texts method.name ++ desc_texts method.desc in
    let three = text_splits.parts (head ++ flat_map code_texts codes) (flat_map name_texts method.throws) texts in
    let two = text_splits.parts head (flat_map code_texts codes) three.0 in
    let one = text_splits.parts (name_texts method.name) (desc_texts method.desc) two.0 in
    let count = (over_splits 65535).parts (flat_map code_counts codes) (count_of method.throws) counts in
    let long = (over_splits 4294967295).parts (flat_map code_lengths codes) (lengths_if (table_length 2 method.throws)) lengths in
    record {
      named = name_fits method.name one.0;
      typed = shaped.desc;
      descriptor = name_fits _ one.1;
      code = code_fits method.code shaped.code two.1 count.0 size far long.0;
      throws = count_fits method.throws count.1;
      thrown = each_name_fits method.throws three.1;
    }

row_fits : (row : InnerRow) → NoText (inner_texts row) → WritableRow row
row_fits row h =
    let outer = flat_map name_texts (option_to_list row.outer) in
    let name = flat_map name_texts (option_to_list row.name) in
    let both = text_splits.parts (name_texts row.inner ++ outer) name h in
    let front = text_splits.parts (name_texts row.inner) outer both.0 in
    record {
      inner = name_fits row.inner front.0;
      outer = optional_name_fits row.outer front.1;
      name = optional_name_fits row.name both.1;
    }

source_fits : (source : Option (List ℕ)) → IfSome source SpellText → NoText (flat_map source_texts (option_to_list source)) → IfSome source FitsBytes
source_fits None spelled h = tt
source_fits (Some bytes) spelled h = (short_one bytes (text_splits.parts (source_texts bytes) [] h).0, spelled)

-- ---- the class

record NoLimit (class : ClassDef) : Type 0 where
  pub texts : NoText (class_texts class)
  pub counts : NoCount (class_counts class)
  pub sizes : bad_size (flat_map codes_in class.methods) ≡ None
  pub branches : first far_in_code (flat_map codes_in class.methods) ≡ None
  pub lengths : NoLength (class_lengths class)

none_passed : (class : ClassDef) → first_limit class ≡ None → NoLimit class
unfolding first_limit
none_passed class h =
    let one = or_none (text_limit class) _ h in
    let two = or_none (count_limit class) _ one.1 in
    let three = or_none (code_limit class) _ two.1 in
    let four = or_none (branch_limit class) (length_limit class) three.1 in
    record {
      texts = map_none _ _ one.0;
      counts = map_none _ _ two.0;
      sizes = map_none _ _ three.0;
      branches = map_none _ _ four.0;
      lengths = map_none _ _ four.1;
    }

record Texts (class : ClassDef) : Type 0 where
  pub name : NoText (name_texts class.name)
  pub super_name : NoText (flat_map name_texts (option_to_list class.super_name))
  pub interfaces : NoText (flat_map name_texts class.interfaces)
  pub fields : NoText (flat_map field_texts class.fields)
  pub methods : NoText (flat_map method_texts class.methods)
  pub source : NoText (flat_map source_texts (option_to_list class.source))
  pub inner : NoText (flat_map inner_texts class.inner)

texts_of : (class : ClassDef) → NoText (class_texts class) → Texts class
unfolding class_texts header_texts member_texts attribute_texts
texts_of class h =
    let super = flat_map name_texts (option_to_list class.super_name) in
    let two = text_splits.parts (header_texts class ++ member_texts class) (attribute_texts class) h in
    let one = text_splits.parts (header_texts class) (member_texts class) two.0 in
    let header = text_splits.parts (name_texts class.name ++ super) (flat_map name_texts class.interfaces) one.0 in
    let front = text_splits.parts (name_texts class.name) super header.0 in
    let members = text_splits.parts (flat_map field_texts class.fields) (flat_map method_texts class.methods) one.1 in
    let attributes = text_splits.parts (flat_map source_texts (option_to_list class.source)) (flat_map inner_texts class.inner) two.1 in
    record {
      name = front.0;
      super_name = front.1;
      interfaces = header.1;
      fields = members.0;
      methods = members.1;
      source = attributes.0;
      inner = attributes.1;
    }

record Counts (class : ClassDef) : Type 0 where
  pub interfaces : NoCount (count_of class.interfaces)
  pub fields : NoCount (count_of class.fields)
  pub methods : NoCount (count_of class.methods)
  pub each_method : NoCount (flat_map method_counts class.methods)
  pub inner : NoCount (count_of class.inner)

counts_of : (class : ClassDef) → NoCount (class_counts class) → Counts class
unfolding class_counts header_counts
counts_of class h =
    let splits = over_splits 65535 in
    let two = splits.parts (header_counts class ++ flat_map method_counts class.methods) (count_of class.inner) h in
    let one = splits.parts (header_counts class) (flat_map method_counts class.methods) two.0 in
    let header = splits.parts (count_of class.interfaces ++ count_of class.fields) (count_of class.methods) one.0 in
    let front = splits.parts (count_of class.interfaces) (count_of class.fields) header.0 in
    record { interfaces = front.0; fields = front.1; methods = header.1; each_method = one.1; inner = two.1 }

method_lengths_of : (class : ClassDef) → NoLength (class_lengths class) → NoLength (flat_map method_lengths class.methods)
unfolding class_lengths
method_lengths_of class h =
    let splits = over_splits 4294967295 in
    let members = flat_map field_lengths class.fields ++ flat_map method_lengths class.methods in
    let two = splits.parts (members ++ lengths_if (index_length class.source)) (lengths_if (table_length 8 class.inner)) h in
    let one = splits.parts members (lengths_if (index_length class.source)) two.0 in
    (splits.parts (flat_map field_lengths class.fields) (flat_map method_lengths class.methods) one.0).1

pub fitting : (class : ClassDef) → Shaped class → first_limit class ≡ None → Writable WritableCode class
fitting class shaped none =
    let passed = none_passed class none in
    let texts = texts_of class passed.texts in
    let counts = counts_of class passed.counts in
    let fields = each_none long_text text_splits field_texts class.fields texts.fields in
    let methods = each_none long_text text_splits method_texts class.methods texts.methods in
    let method_counts_are = each_none (first_over 65535) (over_splits 65535) method_counts class.methods counts.each_method in
    let sizes = each_none bad_size size_splits codes_in class.methods passed.sizes in
    let far = each_none (first far_in_code) far_splits codes_in class.methods passed.branches in
    let lengths = each_none (first_over 4294967295) (over_splits 4294967295) method_lengths class.methods (method_lengths_of class passed.lengths) in
    let rows = each_none long_text text_splits inner_texts class.inner texts.inner in
    record {
      named = name_fits class.name texts.name;
      super_named = optional_name_fits class.super_name texts.super_name;
      interfaces = count_fits class.interfaces counts.interfaces;
      interfaces_named = each_name_fits class.interfaces texts.interfaces;
      fields = count_fits class.fields counts.fields;
      each_field = λ k d lt. field_fits _ (shaped.fields k d lt) (fields k d lt);
      methods = count_fits class.methods counts.methods;
      each_method = λ k d lt. method_fits _ (shaped.methods k d lt) (methods k d lt) (method_counts_are k d lt) (sizes k d lt) (far k d lt) (lengths k d lt);
      source = source_fits class.source shaped.source texts.source;
      inner = count_fits class.inner counts.inner;
      each_row = λ k d lt. row_fits _ (rows k d lt);
    }
