-- Reading the contents of attributes is exact for what they say.
use Rattle.std.proofs.Common.{◌≡◌, ℕ, List, [], ◌++◌, Option, refl, sym, subst}
use Rattle.std.specs.Int.{w16}
use Rattle.std.proofs.lemmas.List.{append-nil}
use Rattle.class_input.specs.Reading.{number}
use Rattle.class_input.specs.Grammar.{IsU16}
use Rattle.class_input.proofs.Laws.{Then, Exact, Exact-same, then_exact, mapped_exact, u16_exact}
use Rattle.class_model.specs.declared.class.InnerRow.{InnerRow}
use Rattle.const_pool.specs.Pool.{Pool, as_text, as_class}
use Rattle.class_names.specs.Pieces.{AtIndex}
use Rattle.class_names.specs.Names.{NamesText, MayName, NamesClass}
use Rattle.class_names.specs.Steps.{at_index}
use Rattle.class_names.specs.NameReading.{text_at, optional, class_name_at}
use Rattle.class_names.proofs.StepLaws.{table_exact, at_index_exact}
use Rattle.class_names.proofs.NameLaws.{no_name, text_judges, class_name_judges, constant_judges, optional_judges}
use Rattle.class_attributes.specs.Attributes.{constant_value, source_file, inner_classes, IsConstantValue, IsExceptions, IsSourceFile, IsInnerRow, IsInnerClasses, ReadsOne, ReadsTwo}
use Rattle.class_attributes.specs.AttributeReading.{one_read, two_read, inner_row, constant_content, exceptions_content, source_content, inner_content}
use Rattle.class_attributes.proofs.AttributeLaws.{then_joined, last_joined, bytes_index_exact, one_read_exact, two_read_exact}

pub class_index_exact : (p : Pool) → Exact (AtIndex (NamesClass p)) (at_index (class_name_at p))
class_index_exact p = at_index_exact (NamesClass p) (class_name_at p) (class_name_judges p)

pub optional_class_exact : (p : Pool) → Exact (AtIndex (MayName (NamesClass p))) (at_index (optional (class_name_at p)))
optional_class_exact p = at_index_exact (MayName (NamesClass p)) (optional (class_name_at p)) (λ place k. optional_judges (NamesClass p) (class_name_at p) place k (λ name h. no_name as_class p h.0 h.1) (class_name_judges p place k))

pub text_index_exact : (p : Pool) → Exact (AtIndex (NamesText p)) (at_index (text_at p))
text_index_exact p = at_index_exact (NamesText p) (text_at p) (text_judges p)

optional_text_exact : (p : Pool) → Exact (AtIndex (MayName (NamesText p))) (at_index (optional (text_at p)))
optional_text_exact p = at_index_exact (MayName (NamesText p)) (optional (text_at p)) (λ place k. optional_judges (NamesText p) (text_at p) place k (λ name h. no_name as_text p h.0 h.1) (text_judges p place k))

pub constant_exact : (p : Pool) → Exact (IsConstantValue p) (constant_content p)
constant_exact p = at_index_exact _ _ (constant_judges p)

pub exceptions_exact : (p : Pool) → Exact (IsExceptions p) (exceptions_content p)
exceptions_exact p = table_exact (AtIndex (NamesClass p)) (at_index (class_name_at p)) (class_index_exact p)

pub source_exact : (p : Pool) → Exact (IsSourceFile p) (source_content p)
source_exact p = bytes_index_exact p

-- ---- a row of InnerClasses

abbrev made_row : List ℕ → Option (List ℕ) → Option (List ℕ) → ℕ → InnerRow
made_row inner outer name flags = record { inner = inner; outer = outer; name = name; flags = flags }

abbrev RowEnd : List ℕ → Option (List ℕ) → Option (List ℕ) → List ℕ → InnerRow → Type 0
RowEnd inner outer name text row = (flags : ℕ) × IsU16 text flags × (made_row inner outer name flags ≡ row)

abbrev RowR : Pool → List ℕ → InnerRow → Type 0
RowR p = Then (AtIndex (NamesClass p)) (λ inner. Then (AtIndex (MayName (NamesClass p))) (λ outer. Then (AtIndex (MayName (NamesText p))) (RowEnd inner outer)))

row_to : (p : Pool) (text : List ℕ) (row : InnerRow) → RowR p text row → IsInnerRow p text row
row_to p text row h =
    let a = h.5 in
    let b = a.5 in
    subst (λ (z : InnerRow). IsInnerRow p text z) b.5.2 (record {
      inner = h.1;
      outer = a.1;
      name = b.1;
      flags = b.2;
      spelled = then_joined _ _ _ _ h.3 (then_joined _ _ _ _ a.3 (then_joined _ _ _ _ b.3 (last_joined b.2)));
      inner_is = h.4;
      outer_is = a.4;
      name_is = b.4;
      flags_are = b.5.1;
    })

row_from : (p : Pool) (text : List ℕ) (row : InnerRow) → IsInnerRow p text row → RowR p text row
row_from p text row h =
    let end : IsU16 (h.flags ++ []) row.flags = subst (λ (z : List ℕ). IsU16 z row.flags) (sym (append-nil h.flags)) h.flags_are in
    (row.inner, h.inner, _, h.spelled, h.inner_is, (row.outer, h.outer, _, refl, h.outer_is, (row.name, h.name, _, refl, h.name_is, (row.flags, end, refl))))

row_exact : (p : Pool) → Exact (IsInnerRow p) (inner_row p)
unfolding inner_row
row_exact p =
    Exact-same (RowR p) (IsInnerRow p) _ (row_to p) (row_from p)
    (then_exact (AtIndex (NamesClass p)) _ (at_index (class_name_at p)) _ (class_index_exact p) (λ inner.
    then_exact (AtIndex (MayName (NamesClass p))) _ (at_index (optional (class_name_at p))) _ (optional_class_exact p) (λ outer.
    then_exact (AtIndex (MayName (NamesText p))) _ (at_index (optional (text_at p))) _ (optional_text_exact p) (λ name.
    mapped_exact IsU16 (number w16) (made_row inner outer name) u16_exact))))

pub inner_exact : (p : Pool) → Exact (IsInnerClasses p) (inner_content p)
inner_exact p = table_exact (IsInnerRow p) (inner_row p) (row_exact p)

-- ---- the attributes of a field and of a class

pub field_attributes_exact : (p : Pool) → Exact (ReadsOne p constant_value (IsConstantValue p)) (one_read p constant_value (constant_content p))
field_attributes_exact p = one_read_exact p constant_value (IsConstantValue p) (constant_content p) (constant_exact p)

pub class_attributes_exact : (p : Pool) → Exact (ReadsTwo p source_file (IsSourceFile p) inner_classes (IsInnerClasses p)) (two_read p source_file (source_content p) inner_classes (inner_content p))
class_attributes_exact p = two_read_exact p source_file (IsSourceFile p) (source_content p) inner_classes (IsInnerClasses p) (inner_content p) (λ e. absurd cc) (source_exact p) (inner_exact p)
