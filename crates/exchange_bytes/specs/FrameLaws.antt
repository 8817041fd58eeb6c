-- A frame that is written is read back, and what is read was written so.
use Rattle.std.proofs.Common.{◌≡◌, ◌++◌, ℕ, eqb, List, [], length, Result, Ok, Err, sym, ap, subst, ◌∙◌, ⊎_elim}
use Rattle.std.proofs.lemmas.Bool.{eqb-true}
use Rattle.std.proofs.lemmas.List.{append-nil, nil_from_length}
use Rattle.sha2.specs.Sha256.{sha256}
use Rattle.byte_fields.specs.declared.faults.SpellingFault.{SpellingFault}
use Rattle.byte_fields.specs.declared.faults.SpellingFault.TheVariants as fault
use Rattle.byte_fields.specs.FieldLaws.{bind_ok, chosen, ok_is}
use Rattle.byte_fields.specs.Laws.{IsBytes}
use Rattle.byte_fields.specs.Reading.{◌>>=◌}
use Rattle.store_bytes.specs.ListReading.{opened}
use Rattle.store_bytes.specs.ListSpelling.{head}
use Rattle.store_bytes.specs.WholeLaws.{opened_again, opened_takes}
use Rattle.exchange_bytes.specs.Frames.{FrameParts}
use Rattle.exchange_bytes.specs.Laws.{AreFramesOneToOne}
use Rattle.exchange_bytes.specs.PartLaws.{fields_field}
use Rattle.exchange_bytes.specs.Reading.{fields_at, frame_in, whole}
use Rattle.exchange_bytes.specs.Spelling.{fields, frame_spelling, HasFrameSpelling}

abbrev inner_from : List ℕ → Result FrameParts SpellingFault
inner_from inner = fields_at inner >>= whole

pub frame_taken : (bytes : List ℕ) (f : FrameParts) → IsBytes bytes → frame_in bytes ≡ Ok f
    → HasFrameSpelling f × (bytes ≡ frame_spelling f)
unfolding frame_in
frame_taken bytes f fits e =
    let a = bind_ok (opened 4 bytes) inner_from f e in
    let o = opened_takes 4 bytes a.0 fits a.1 in
    let b = bind_ok (fields_at a.0) whole f a.2 in
    let t = fields_field.takes a.0 b.0 o.1 b.1 in
    ⊎_elim
    (λ ended.
    let nothing : b.0.1 ≡ [] = nil_from_length b.0.1 (eqb-true _ _ ended.0) in
    let inner : a.0 ≡ fields b.0.0 = t.0.parts ∙ ap (λ (l : List ℕ). fields b.0.0 ++ l) nothing ∙ append-nil (fields b.0.0) in
    subst (λ (g : FrameParts). HasFrameSpelling g × (bytes ≡ frame_spelling g)) (ok_is b.0.0 f ended.1)
    (t.1, o.0 ∙ ap (λ (l : List ℕ). (head 4 ++ l) ++ sha256 (head 4 ++ l)) inner))
    (λ bad. let wrong = bad.1 in absurd cc)
    (chosen (eqb (length b.0.1) 0) (Ok b.0.0) (Err fault.Trailing) (Ok f) b.2)

pub frame_again : (f : FrameParts) → HasFrameSpelling f → frame_in (frame_spelling f) ≡ Ok f
unfolding frame_in
frame_again f is =
    let read : fields_at (fields f) ≡ Ok (f, []) = ap fields_at (sym (append-nil (fields f))) ∙ fields_field.again f [] is in
    ap (λ (r : Result (List ℕ) SpellingFault). r >>= inner_from) (opened_again 4 (fields f))
    ∙ ap (λ (r : Result (FrameParts × List ℕ) SpellingFault). r >>= whole) read

pub are_one_to_one : AreFramesOneToOne
are_one_to_one = record {
  same_frames = λ f g p q e. ok_is f g (sym (frame_again f p) ∙ ap frame_in e ∙ frame_again g q);
  one_spelling = λ b c f p q d e. (frame_taken b f p d).1 ∙ sym (frame_taken c f q e).1;
}
