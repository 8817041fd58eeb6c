-- Each question about units has one answer.
use Rattle.std.proofs.Common.{◌∷◌, ◌≡◌}
use Rattle.script_answers.specs.Prelude.{ap, Choice, EntryMap, Err, false, host_view_of, HostViewMap, is_spent, IsDropInAt, List, MatchResult, Name, name_of, NameFault, Ok, one_list_of_names, one_order, Option, Outcome, PlaceParts, resolution, Result, subst, sym, ℕ, ◌∙◌}
use Rattle.script_answers.specs.{Files.{cat_text, IsCat, RefusesName, RendersChoice, RendersFiles, RendersFilesOf}, HostLaws.{for_host_once, for_host_unspent}, Hosts.{by_files}}
use Rattle.unit_name.specs.declared.names.NameFault.TheVariants as name
use Rattle.fragment_choice.specs.declared.choices.Choice.TheVariants as choice

-- the files of a unit have one answer, or one refusal
abbrev pub FilesAreRenderedOnce : Type 0
FilesAreRenderedOnce = (asked : Option (List ℕ)) (word : List ℕ) (s : EntryMap) (a b : Outcome) → RendersFiles asked word s a → RendersFiles asked word s b → a ≡ b

-- a unit has one text of its files
one_cat : (s : HostViewMap) (main : Name) (fragment : PlaceParts) (text other : List ℕ) → IsCat s main fragment text
    → IsCat s main fragment other → text ≡ other
one_cat s main fragment text other a b =
    let names = one_list_of_names s main a.names b.names a.names_are b.names_are in
    let dropins = one_order a.dropins b.dropins a.ascending b.ascending (λ p. (
      λ c. (b.exact p).1 (subst (λ ns. IsDropInAt s ns p) names ((a.exact p).0 c)),
      λ c. (a.exact p).1 (subst (λ ns. IsDropInAt s ns p) (sym names) ((b.exact p).0 c)),
    )) in
    a.text_is ∙ ap (λ ps. cat_text s (fragment ∷ ps)) dropins ∙ sym b.text_is

-- a word that is no unit name has one refusal
pub name_refused_once : (a b : Outcome) (fault : NameFault) → RefusesName fault a → RefusesName fault b → a ≡ b
name_refused_once a b name.Length p q = p ∙ sym q
name_refused_once a b name.Kind p q = p ∙ sym q
name_refused_once a b name.EmptyPrefix p q = p ∙ sym q
name_refused_once a b (name.BadByte place) p q = p ∙ sym q
name_refused_once a b name.Memory p q = absurd p

-- and it is never that counters are spent
pub name_unspent : (outcome : Outcome) (fault : NameFault) → RefusesName fault outcome → is_spent outcome ≡ false
name_unspent outcome name.Length p = ap is_spent p
name_unspent outcome name.Kind p = ap is_spent p
name_unspent outcome name.EmptyPrefix p = ap is_spent p
name_unspent outcome (name.BadByte place) p = ap is_spent p
name_unspent outcome name.Memory p = absurd p

module _ (s : HostViewMap) (a b : Outcome) where
  choice_rendered_once : (main : Name) (c : Choice) → RendersChoice s main c a → RendersChoice s main c b → a ≡ b
  choice_rendered_once main choice.NotFound p q = p ∙ sym q
  choice_rendered_once main choice.Masked p q = p ∙ sym q
  choice_rendered_once main (choice.Fragment place) p q = p.2 ∙ ap Ok (one_cat s main place p.0 q.0 p.1 q.1) ∙ sym q.2
  choice_rendered_once main (choice.Alias other) p q = absurd p
  choice_rendered_once main (choice.Bad cause) p q = p ∙ sym q

  rendered_once : (r : Result Name NameFault)
      → MatchResult r (λ n. RendersChoice s (resolution s n).main (resolution s n).choice a)
      (λ fault. RefusesName fault a)
      → MatchResult r (λ n. RendersChoice s (resolution s n).main (resolution s n).choice b) (λ fault. RefusesName fault b) → a ≡ b
  rendered_once (Ok n) p q = choice_rendered_once (resolution s n).main (resolution s n).choice p q
  rendered_once (Err fault) p q = name_refused_once a b fault p q

pub files_are_rendered_once : FilesAreRenderedOnce
files_are_rendered_once asked word s = for_host_once (λ host t. RendersFilesOf word (host_view_of t (by_files host))) asked s (λ host a b p q. rendered_once (host_view_of s (by_files host)) a b (name_of word) p q)

-- the answer about a unit's files is never that counters are spent
module _ (s : HostViewMap) (outcome : Outcome) where
  choice_unspent : (main : Name) (c : Choice) → RendersChoice s main c outcome → is_spent outcome ≡ false
  choice_unspent main choice.NotFound p = ap is_spent p
  choice_unspent main choice.Masked p = ap is_spent p
  choice_unspent main (choice.Fragment place) p = ap is_spent p.2
  choice_unspent main (choice.Alias other) p = absurd p
  choice_unspent main (choice.Bad cause) p = ap is_spent p

  rendered_unspent : (r : Result Name NameFault)
      → MatchResult r (λ n. RendersChoice s (resolution s n).main (resolution s n).choice outcome)
      (λ fault. RefusesName fault outcome) → is_spent outcome ≡ false
  rendered_unspent (Ok n) p = choice_unspent (resolution s n).main (resolution s n).choice p
  rendered_unspent (Err fault) p = name_unspent outcome fault p

pub files_spend_nothing : (asked : Option (List ℕ)) (word : List ℕ) (s : EntryMap) (outcome : Outcome)
    → RendersFiles asked word s outcome → is_spent outcome ≡ false
files_spend_nothing asked word s = for_host_unspent (λ host t. RendersFilesOf word (host_view_of t (by_files host))) asked s (λ host outcome t. rendered_unspent (host_view_of s (by_files host)) outcome (name_of word) t)
