use Rattle.setting_rules.proofs.{Named.{by_elements, names_by-append, noted_by, noted_by-append}, Prelude.{[], Bor, get_or, List, map, names_by, refl, ℕ, ◌∙◌}, RowLemmas.{texts_more}}
use Rattle.setting_rules.proofs.dependency_lists.Dependencies.add_words.Goals as goal

pub loop-word-preserved : goal.loop-word-preserved
loop-word-preserved c =
    let unit = c.args.unit.now in
    let words = c.args.words.now in
    let d : Bor (List ℕ) = record { ref_ptr = (0, 0); now = [] } in
    let word = get_or words c.loop-word.word-index d in (
      texts_more (λ ws. names_by unit (map (λ (w : Bor (List ℕ)). w.now) ws)) (by_elements (names_by unit) (names_by-append unit) (λ (w : Bor (List ℕ)). w.now)) words c.loop-word.word-index d word c.args.names.now.items c.loop-word.names.items c.add_word.new.names.items c.loop-word-test.true refl c.loop-word.invariant.0 c.in_ok-add_word.ensures.names,
      texts_more (λ ws. noted_by unit c.args.kind (map (λ (w : Bor (List ℕ)). w.now) ws)) (by_elements (noted_by unit c.args.kind) (noted_by-append unit c.args.kind) (λ (w : Bor (List ℕ)). w.now)) words c.loop-word.word-index d word c.args.self.now.notes c.loop-word.self.notes c.add_word.new.self.notes c.loop-word-test.true refl c.loop-word.invariant.1 c.in_ok-add_word.ensures.notes,
      c.in_ok-add_word.ensures.lists ∙ c.loop-word.invariant.2,
    )
