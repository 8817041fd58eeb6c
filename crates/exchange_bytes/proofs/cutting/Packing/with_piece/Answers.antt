use Rattle.std.proofs.Common.{◌≡◌, ◌∷◌, [], ap, subst, ◌∙◌}
use Rattle.std.specs.FinMap as finmap
use Rattle.edit_sums.specs.Sums.{edit_of, sum_of}
use Rattle.edit_sums.specs.declared.contents.Content.{Content}
use Rattle.edit_sums.specs.declared.entries.Edit.{Edit}
use Rattle.exchange_bytes.specs.Cutting.{content_weight, IsHeavier, SaysAlso}
use Rattle.exchange_bytes.proofs.Packing.{packing_begins, packing_ends, packing_goes_on}
use Rattle.exchange_bytes.proofs.cutting.Packing.with_piece.Goals as goal

pub loop-placed-init : goal.loop-placed-init
loop-placed-init c = record { packed = packing_begins c.args.piece.now c.args.self c.entries-entries.result (c.entries-entries.ensures.entries ∙ ap (λ s. finmap.entries s) c.store.ensures.store); small = λ room. room }

pub loop-placed-preserved : goal.loop-placed-preserved
loop-placed-preserved c =
    let e = c.in-Some.placed in
    let edit : Edit = record { place = c.in_ok-place.field-0; version = c.entry-entry.result.now.version; content = c.in_ok-try_clone.field-0 } in
    let content : c.in_ok-try_clone.field-0 ≡ e.1.content = c.in_ok-try_clone.ensures.copy ∙ ap (λ x. x.content) c.entry-entry.ensures.entry in
    let same : edit ≡ edit_of e = (λ i. record { place = c.in_ok-place.ensures.place i; version = (c.entry-entry.ensures.entry i).version; content = content i }) in
    record {
      packed = packing_goes_on c.args.piece.now c.args.self c.loop-placed.open c.in_ok-open.open c.loop-placed.entries c.next_entry.new.self e c.loop-placed.invariant.packed c.in-Some.ensures.first
          (subst (λ (x : Edit). SaysAlso c.loop-placed.open c.in_ok-open.open [] [] (sum_of (x ∷ []))) same c.in_ok-open.ensures.says)
          (subst (λ (x : Content). IsHeavier c.loop-placed.open c.in_ok-open.open (content_weight x)) content c.in_ok-open.ensures.heavier);
      small = λ room. c.in_ok-open.ensures.small (c.loop-placed.invariant.small room);
    }

pub returns-clause-says : goal.returns-clause-says
returns-clause-says c = (packing_ends c.args.piece.now c.args.self c.loop-placed.open c.loop-placed.entries c.loop-placed.invariant.packed c.in_default.ensures.first.0).0

pub returns-clause-heavier : goal.returns-clause-heavier
returns-clause-heavier c = (packing_ends c.args.piece.now c.args.self c.loop-placed.open c.loop-placed.entries c.loop-placed.invariant.packed c.in_default.ensures.first.0).1
