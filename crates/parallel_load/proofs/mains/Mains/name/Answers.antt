use Rattle.std.proofs.Common.{◌<◌}
use Rattle.parallel_load.proofs.{Indexing.{own_key}, Prelude.{ap, key_at, length, List, Name, subst, sym, ℕ, ◌∙◌}}
use Rattle.parallel_load.proofs.mains.Mains.name.Goals as goal

pub returns : goal.returns
returns c =
    let index = c.args.index in
    let L : List (Name × ℕ) → Type 0 = λ l. index < length l in
    let below = subst L (sym c.self.view_is) c.requires.within in
    record {
      name = sym (own_key c.self.inside.names.items index c.index.result.now below c.index.ensures)
          ∙ ap (λ (l : List (Name × ℕ)). key_at l index) c.self.view_is;
    }
