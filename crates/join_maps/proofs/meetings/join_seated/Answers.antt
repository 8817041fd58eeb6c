use Rattle.std.proofs.Common.{rules}
use Rattle.std.specs.Prelude.{zero}
use Rattle.join_maps.proofs.Prelude.{ap, find, find_at, subst, sym, ◌∙◌}
use Rattle.join_law.specs.OutcomeLaws.{if_ok_weaker}
use Rattle.join_maps.specs.Held.{HasSeat, held_pairs}
use Rattle.join_maps.proofs.meetings.join_seated.Goals as goal

pub returns-in-Alone-clause-joined : goal.returns-in-Alone-clause-joined
returns-in-Alone-clause-joined g c =
    let seat = subst (HasSeat g.K.Ord.cmp c.args.key) c.in-Alone.is c.requires.seat in
    let found = ap (λ h. find g.K.Ord.cmp c.args.key (held_pairs h)) c.in-Alone.is ∙ find_at g.K.Ord.cmp c.args.key c.in-Alone.alone zero (c.args.key, c.args.value) seat in
    record {
      ok = search rules;
      added = if_ok_weaker c.join_value.result
          (λ added same. (λ t. let u = sym same ∙ t in cc (u), λ new. let none = sym found ∙ new.0 in cc (none)))
          c.join_value.ensures.added;
      key = c.join_value.ensures.key;
      refused = search rules;
      left = c.join_value.ensures.left;
      rest_valid = c.join_value.ensures.rest_valid;
      single = search rules;
      in_place = λ in_place known. c.join_value.ensures.in_place in_place;
    }
