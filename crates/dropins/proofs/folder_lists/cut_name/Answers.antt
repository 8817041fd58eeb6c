use Rattle.dropins.proofs.{Cuts.{cut_is, only_memory}, folder_lists.cut_name.Goals.{in-Memory, in_default}, Prelude.{IsName, subst, sym, true≢false, ◌∙◌}}
use Rattle.dropins.proofs.folder_lists.cut_name.Goals as goal

pub returns-in-Ok : goal.returns-in-Ok
returns-in-Ok c = record {
  cut = c.in-Ok.ensures.same ∙ cut_is c.args.name.now c.args.prefix.now _ _ _ _ _ c.bytes.ensures.well_formed c.deref.ensures.value c.in_ok-extend_from_slice.ensures.items c.in_ok-bytes.ensures.items c.prefix.ensures.prefix c.bytes.ensures.bytes;
}

pub prove-unreachable-requires : goal.prove-unreachable-requires
prove-unreachable-requires c =
    let b = cut_is c.args.name.now c.args.prefix.now _ _ _ _ _ c.bytes.ensures.well_formed c.deref.ensures.value c.in_ok-extend_from_slice.ensures.items c.in_ok-bytes.ensures.items c.prefix.ensures.prefix c.bytes.ensures.bytes in
    let m = only_memory _ c.in-Err.fault (subst IsName (sym b) c.requires.well_formed) c.in-Err.ensures.fault in
    elim c.match-matches.branch [ in-Memory w ↦ true≢false (sym w.matches-is ∙ c.if-prove.true) | in_default w ↦ w.in_default.not-Memory m ]
