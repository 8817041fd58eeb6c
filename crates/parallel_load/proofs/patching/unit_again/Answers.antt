use Rattle.parallel_load.proofs.{Keeping.{lists_same}, Prelude.{sym, ◌∙◌}, UnitsPut.{not_false}}
use Rattle.parallel_load.proofs.patching.unit_again.Goals as goal

pub read_unit-requires-clause-main : goal.read_unit-requires-clause-main
read_unit-requires-clause-main c = (c.requires.own c.in-Unit.was c.in-Unit.is).0

pub returns : goal.returns
returns c = record {
  again = record {
    was = c.in-Unit.was;
    load_is = c.in-Unit.is;
    unit = c.in_ok-unit.unit;
    is_unit = c.in_ok-unit.ensures.unit;
    names_stay = sym c.as_slice.ensures.elements ∙ lists_same c.as_slice.result.now c.as_slice-2.result.now (not_false _ (sym c.ne.ensures ∙ c.if-ne.false)) ∙ c.as_slice-2.ensures.lists;
    is = c.in_ok-normalized_unit.ensures.load;
  };
}
