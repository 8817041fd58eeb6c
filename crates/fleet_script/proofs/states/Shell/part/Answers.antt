use Rattle.fleet_script.proofs.{Between.{any_node, parts}, Goes.{key_updated, with_all_written, with_node}, Prelude.{ap, AtNode, AtPlaces, entries_line, kept_in, Ok, PartsAt, refl, ◌∙◌}}
use Rattle.fleet_script.proofs.states.Shell.part.Goals as goal

pub returns-clause-done : goal.returns-clause-done
returns-clause-done c =
    let shell = kept_in c.args.self.now in
    let rendered = Ok c.in_ok-text.text in
    with_node shell _ rendered c.args.from.now c.in_ok-from.from (λ j old outcome new. AtNode old outcome new c.args.to.now (λ k. AtPlaces old outcome new c.args.places (λ places. PartsAt old outcome new c.args.piece.now j k places))) c.in_ok-from.ensures.found
    (with_node shell _ rendered c.args.to.now c.in_ok-to.to (λ k old outcome new. AtPlaces old outcome new c.args.places (λ places. PartsAt old outcome new c.args.piece.now c.in_ok-from.from k places)) c.in_ok-to.ensures.found
    (with_all_written shell _ rendered c.args.places c.in_ok-places.places.items (λ places old outcome new. PartsAt old outcome new c.args.piece.now c.in_ok-from.from c.in_ok-to.to places) c.in_ok-places.ensures.read
    (parts shell _ c.args.piece.now c.in_ok-from.from c.in_ok-to.to any_node c.in_ok-places.places.items c.in_ok-cut.cut c.in_ok-text.text c.in_ok-from.ensures.within c.in_ok-to.ensures.within
    (rw c.deref.ensures.value at c.in_ok-cut.ensures.cut) refl refl refl (λ other. key_updated c.args.piece.now c.in_ok-from_slice.field-0 other _ _ _ _ c.in_ok-from_slice.ensures.copy refl ((c.in_ok-insert.ensures.updates).0 other)) refl (c.in_ok-text.ensures.line ∙ ap entries_line c.len.ensures.len))))
