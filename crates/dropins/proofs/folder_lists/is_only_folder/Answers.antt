use Rattle.std.proofs.Common.{◌∷◌, ◌≡◌, ◌≢◌}
use Rattle.dropins.proofs.Prelude.{[], ap, Bool, false, folders, Instance, is_dash, IsTrue, List, list_any, Name, not, one_folder, Plain, prefix, refl, shape, sym, Template, true, ℕ, ⊎_elim, ◌∙◌}
use Rattle.dropins.proofs.folder_lists.is_only_folder.Goals as goal

not_so : (b : Bool) → IsTrue (not b) → b ≡ false
not_so true h = cc (h)
not_so false h = refl

-- No instance, and no dash in the prefix.
only_folder : (n : Name) (text : List ℕ) (dashed : Bool) → shape n ≢ Instance → text ≡ prefix n → dashed ≡ list_any is_dash text → IsTrue (not dashed) → folders (n ∷ []) ≡ n ∷ []
only_folder n text dashed other is_prefix is_dashed plain =
    one_folder n other (ap (list_any is_dash) (sym is_prefix) ∙ sym is_dashed ∙ not_so dashed plain)

pub returns-in-Plain : goal.returns-in-Plain
returns-in-Plain c =
    let other : shape c.args.name.now ≢ Instance = λ e. ⊎_elim (λ (p : c.shape.result ≡ Plain). cc (p, c.shape.ensures.shape, e)) (λ (p : c.shape.result ≡ Template). cc (p, c.shape.ensures.shape, e)) c.in-Plain.is in
    record { only = only_folder c.args.name.now c.prefix.result.now c.contains.result other c.prefix.ensures.prefix c.contains.ensures.value }
