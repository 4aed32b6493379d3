use Rattle.std.proofs.Common.{List, ℕ, ◌≡◌, ◌∙◌, [], ◌∷◌, Vec, Global, Ok, Err, Result, sym, subst, ap}
use Rattle.const_pool.specs.Pool.{Pool}
use Rattle.class_names.specs.Pieces.{joined}
use Rattle.class_file.specs.ClassBytes.{ClassBytes}
use Rattle.pool_names.specs.Adding.{PutsBy, Unfit}
use Rattle.pool_names.proofs.Claiming.{given}
use Rattle.class_spelling.specs.ClassSpelling.{front_bytes, pool_bytes, spell_class_body}
use Rattle.class_spelling.proofs.Classes.{Writes, file_is, file_spelled, file_stops}
use Rattle.class_spelling.proofs.class.write_class.Goals as goal

pub returns-in_err-body-clause-spelled : goal.returns-in_err-body-clause-spelled
returns-in_err-body-clause-spelled g c =
    let stop = c.in_err-body.field-0.0 in
    let q = c.class_body.new.pool in
    let view = λ (body : Vec ℕ Global). body.items in
    let put = subst (λ (p : Pool). PutsBy view (Err stop) q (spell_class_body g.C.CodeWriter.spelled c.args.class.now p)) c.in_ok-pool.ensures c.in_err-body.ensures in
    file_stops view stop c.from_residual-in_err-body.result g.C.CodeWriter.spelled c.args.class.now q put c.from_residual-in_err-body.ensures.1

pub returns-clause-written : goal.returns-clause-written
returns-clause-written g c =
    let class = c.args.class.now in
    let q = c.class_body.new.pool in
    let body = c.in_ok-body.body.items in
    let spelled = subst (λ (p : Pool). spell_class_body g.C.CodeWriter.spelled class p ≡ given q body) c.in_ok-pool.ensures c.in_ok-body.ensures in
    let writes : Writes g.C.CodeWriter.is_code g.C.CodeWriter.writable g.C.CodeWriter.spelled = record { claims = g.met.C.CodeWriter.claims } in
    let is = file_is g.C.CodeWriter.is_code g.C.CodeWriter.writable g.C.CodeWriter.spelled writes class c.requires q (front_bytes class) (pool_bytes q) body c.in_ok-bytes.ensures.front spelled c.in_ok-bytes.ensures.pool in
    let bytes = c.in_ok-bytes.ensures.bytes ∙ ap (λ (z : List ℕ). joined (front_bytes class ∷ pool_bytes q ∷ z ∷ [])) c.as_slice.ensures.value in
    subst (λ (z : List ℕ). ClassBytes g.C.CodeWriter.is_code z class) (sym bytes) is

pub returns-clause-spelled : goal.returns-clause-spelled
returns-clause-spelled g c =
    let class = c.args.class.now in
    let q = c.class_body.new.pool in
    let body = c.in_ok-body.body.items in
    let spelled = subst (λ (p : Pool). spell_class_body g.C.CodeWriter.spelled class p ≡ given q body) c.in_ok-pool.ensures c.in_ok-body.ensures in
    let bytes = c.in_ok-bytes.ensures.bytes ∙ ap (λ (z : List ℕ). joined (front_bytes class ∷ pool_bytes q ∷ z ∷ [])) c.as_slice.ensures.value in
    file_spelled g.C.CodeWriter.spelled class q (front_bytes class) body spelled c.in_ok-bytes.ensures.front ∙ ap (λ (z : List ℕ). let r : Result (List ℕ) Unfit = Ok z in r) (sym bytes)
