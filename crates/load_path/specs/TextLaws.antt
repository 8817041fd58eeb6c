-- Laws of the texts of paths: where a text is split, and that paths and texts determine each other.
use Rattle.std.proofs.Common.{if◌then◌else◌, ◌&&◌, ◌++◌, ◌+◌, ◌<◌, ◌||◌, ◌∷◌, ◌≡◌, ◌≢◌}
use Rattle.load_path.specs.Prelude.{[], and_from, and_parts, ap, append_assoc, arith, both_ways, cases_Bool, cond-false, cond-true, Decides-eqb, drop, drop_at, false, join_with_byte, join_with_byte-slice_split, length, length_push, List, list_all, lt-ltb, nat_eq, nat_le, nat_lt, None, not, not-true, Ok, onto_first, Option, option_map_or, or_cases, or_right, refl, slice_get, slice_split, slice_split-cons_no, Some, starts_is, starts_with, subst, suc, sym, true, unwrap_or, zero, ℕ, ⊎_elim, ◌∙◌}
use Rattle.load_path.specs.Paths.{AreTheirTexts, below_directory, directories, directory_of, is_component, is_component_byte, is_slash, IsPath, located, located_from, path_below, path_of, path_within, PathParts, text_of}

-- the text after a directory and a slash
pub below_at : (directory text rest : List ℕ) → text ≡ directory ++ 47 ∷ rest → below_directory directory text ≡ Some rest
unfolding below_directory
below_at directory text rest e =
    let prefix = e ∙ sym (append_assoc directory (47 ∷ []) rest) in
    let begins = (starts_is Decides-eqb text (directory ++ 47 ∷ []) (starts_with nat_eq text (directory ++ 47 ∷ [])) refl).1 rest prefix in
    cond-true _ _ _ begins ∙ ap (λ t. Some (drop (length directory + 1) t)) prefix ∙ ap Some (drop_at (directory ++ 47 ∷ []) rest _ (length_push directory 47))

pub below_none : (directory text : List ℕ) → ((rest : List ℕ) → text ≢ directory ++ 47 ∷ rest) → below_directory directory text ≡ None
unfolding below_directory
below_none directory text apart =
    ⊎_elim
    (λ begins. absurd (apart _ ((starts_is Decides-eqb text (directory ++ 47 ∷ []) (starts_with nat_eq text (directory ++ 47 ∷ [])) refl).0 begins ∙ append_assoc directory (47 ∷ []) _)))
    (λ other. cond-false _ _ _ other)
    (cases_Bool (starts_with nat_eq text (directory ++ 47 ∷ [])))

below_sound : (directory text rest : List ℕ) → below_directory directory text ≡ Some rest → text ≡ directory ++ 47 ∷ rest
unfolding below_directory
below_sound directory text rest e =
    let prefix = starts_is Decides-eqb text (directory ++ 47 ∷ []) (starts_with nat_eq text (directory ++ 47 ∷ [])) refl in
    ⊎_elim
    (λ begins.
    let same : Some (drop (length directory + 1) text) ≡ Some rest = sym (cond-true _ _ _ begins) ∙ e in
    let rest_is : drop (length directory + 1) text ≡ rest = cc in
    prefix.0 begins ∙ append_assoc directory (47 ∷ []) _ ∙ ap (λ t. directory ++ 47 ∷ t) (ap (λ n. drop n text) (length_push directory 47) ∙ rest_is))
    (λ other. let same : None ≡ Some rest = sym (cond-false _ _ _ other) ∙ e in cc)
    (cases_Bool (starts_with nat_eq text (directory ++ 47 ∷ [])))

-- the directories are tried one after the other
pub located-start : (text : List ℕ) → located_from 0 directories text ≡ located text
unfolding located
located-start text = refl

located_from-at : (rank : ℕ) (text : List ℕ) → rank < 4 → located_from rank (drop rank directories) text
    ≡ option_map_or (λ below. Some (rank, below)) (below_directory (directory_of rank) text) (located_from (rank + 1) (drop (rank + 1) directories) text)
located_from-at zero text lt = refl
located_from-at (suc zero) text lt = refl
located_from-at (suc (suc zero)) text lt = refl
located_from-at (suc (suc (suc zero))) text lt = refl
located_from-at (suc (suc (suc (suc rank)))) text lt = absurd (omega arith)

pub located_here : (rank : ℕ) (text below : List ℕ) → rank < 4 → below_directory (directory_of rank) text ≡ Some below
    → located_from rank (drop rank directories) text ≡ Some (rank, below)
located_here rank text below lt e =
    located_from-at rank text lt
    ∙ ap (λ o. option_map_or (λ b. Some (rank, b)) o (located_from (rank + 1) (drop (rank + 1) directories) text)) e

pub located_later : (rank : ℕ) (text : List ℕ) → rank < 4 → below_directory (directory_of rank) text ≡ None
    → located_from rank (drop rank directories) text ≡ located_from (rank + 1) (drop (rank + 1) directories) text
located_later rank text lt e =
    located_from-at rank text lt
    ∙ ap (λ o. option_map_or (λ b. Some (rank, b)) o (located_from (rank + 1) (drop (rank + 1) directories) text)) e

-- every text below a directory is located there
pub located_at : (rank : ℕ) (rest : List ℕ) → rank < 4 → located (directory_of rank ++ 47 ∷ rest) ≡ Some (rank, rest)
unfolding located below_directory
located_at zero rest lt = refl
located_at (suc zero) rest lt = refl
located_at (suc (suc zero)) rest lt = refl
located_at (suc (suc (suc zero))) rest lt = refl
located_at (suc (suc (suc (suc rank)))) rest lt = absurd (omega arith)

found_first : (from : ℕ) (rest : List (List ℕ)) (directory text : List ℕ) (rank : ℕ) (below : List ℕ)
    (o : Option (List ℕ)) → below_directory directory text ≡ o
    → (located_from (from + 1) rest text ≡ Some (rank, below)
    → (i : ℕ) × (i < length rest) × (rank ≡ from + 1 + i) × (text ≡ unwrap_or (slice_get rest i) [] ++ 47 ∷ below))
    → option_map_or (λ b. Some (from, b)) o (located_from (from + 1) rest text) ≡ Some (rank, below)
    → (i : ℕ) × (i < length (directory ∷ rest)) × (rank ≡ from + i) × (text ≡ unwrap_or (slice_get (directory ∷ rest) i) [] ++ 47 ∷ below)
found_first from rest directory text rank below None at later e =
    let inner = later e in
    (suc inner.0, omega (arith, inner.1), omega (arith, inner.2), inner.3)
found_first from rest directory text rank below (Some b) at later e =
    let same : ◌≡◌ {A = ℕ × List ℕ} (from, b) (rank, below) = cc in
    let rank_is : from ≡ rank = ap (λ p. p.0) same in
    (0, omega arith, omega (arith, rank_is), below_sound directory text b at ∙ ap (λ p. directory ++ 47 ∷ p.1) same)

found_in : (from : ℕ) (all : List (List ℕ)) (text : List ℕ) (rank : ℕ) (below : List ℕ) → located_from from all text ≡ Some (rank, below)
    → (i : ℕ) × (i < length all) × (rank ≡ from + i) × (text ≡ unwrap_or (slice_get all i) [] ++ 47 ∷ below)
found_in from [] text rank below e = cc (e)
found_in from (directory ∷ rest) text rank below e =
    found_first from rest directory text rank below (below_directory directory text) refl (λ h. found_in (from + 1) rest text rank below h) e

-- the located directory and the text below it are the whole text
pub located_sound : (text : List ℕ) (rank : ℕ) (below : List ℕ) → located text ≡ Some (rank, below)
    → (rank < 4) × (text ≡ directory_of rank ++ 47 ∷ below)
unfolding located
located_sound text rank below e =
    let found = found_in 0 directories text rank below e in
    let rank_is : rank ≡ found.0 = omega (arith, found.2) in
    (omega (arith, found.1), found.3 ∙ ap (λ n. directory_of n ++ 47 ∷ below) (sym rank_is))

-- a component contains no slash
clean_byte : (b : ℕ) → is_component_byte b ≡ true → is_slash b ≡ false
clean_byte b h = not-true (is_slash b) (and_parts (nat_le 33 b && nat_le b 126) (not (is_slash b)) h).1

whole : (bytes : List ℕ) → list_all is_component_byte bytes ≡ true → slice_split is_slash bytes ≡ bytes ∷ []
whole [] h = refl
whole (b ∷ bytes) h =
    let parts = and_parts _ _ h in
    slice_split-cons_no is_slash b bytes (clean_byte b parts.0) ∙ ap (onto_first b) (whole bytes parts.1)

cut_once : (folder rest : List ℕ) → list_all is_component_byte folder ≡ true
    → slice_split is_slash (folder ++ 47 ∷ rest) ≡ folder ∷ slice_split is_slash rest
cut_once [] rest h = refl
cut_once (b ∷ folder) rest h =
    let parts = and_parts _ _ h in
    slice_split-cons_no is_slash b (folder ++ 47 ∷ rest) (clean_byte b parts.0) ∙ ap (onto_first b) (cut_once folder rest parts.1)

clean : (bytes : List ℕ) → is_component bytes ≡ true → list_all is_component_byte bytes ≡ true
clean bytes h = (and_parts _ _ (and_parts _ _ h).0).1

-- the part of a path's text below its directory
abbrev below_of : List ℕ → List ℕ → List ℕ
below_of folder name = (if nat_lt 0 (length folder) then folder ++ 47 ∷ [] else []) ++ name

read_below : (rank : ℕ) (folder name : List ℕ) → (not (nat_lt 0 (length folder)) || is_component folder) ≡ true → is_component name ≡ true
    → path_below rank (slice_split is_slash (below_of folder name)) ≡ Ok (record { rank = rank; folder = folder; name = name })
read_below rank [] name f n = ap (path_below rank) (whole name (clean name n)) ∙ cond-true _ _ _ n
read_below rank (b ∷ folder) name f n =
    let filled : nat_lt 0 (length (b ∷ folder)) ≡ true = lt-ltb _ _ (omega arith) in
    let good : is_component (b ∷ folder) ≡ true = ⊎_elim (λ h. absurd (both_ways _ (not-true _ h) filled)) (λ h. h) (or_cases _ _ f) in
    ap (λ t. path_below rank (slice_split is_slash (t ++ name))) (cond-true _ _ _ filled)
    ∙ ap (λ t. path_below rank (slice_split is_slash t)) (append_assoc (b ∷ folder) (47 ∷ []) name)
    ∙ ap (path_below rank) (cut_once (b ∷ folder) name (clean (b ∷ folder) good) ∙ ap (λ parts. (b ∷ folder) ∷ parts) (whole name (clean name n)))
    ∙ cond-true _ _ _ (and_from _ _ good n)

read_back : (path : PathParts) → IsPath path → path_of (text_of path) ≡ Ok path
unfolding path_of text_of
read_back path h = ap path_within (located_at path.rank (below_of path.folder path.name) h.directory) ∙ read_below path.rank path.folder path.name h.folder h.name

-- one or two components joined are the text below the directory
abbrev IsWritten : ℕ → List ℕ → PathParts → Type 0
IsWritten rank below path = (below_of path.folder path.name ≡ below) × (path.rank ≡ rank) × (rank < 4 → IsPath path)

written_one : (rank : ℕ) (below name : List ℕ) (path : PathParts) → name ≡ below → path_below rank (name ∷ []) ≡ Ok path
    → IsWritten rank below path
written_one rank below name path e h = ⊎_elim
    (λ good.
    let same : ◌≡◌ {A = PathParts} (record { rank = rank; folder = []; name = name }) path = let ok = sym (cond-true _ _ _ good) ∙ h in cc in
    subst (IsWritten rank below) same (e, refl, λ lt. record { directory = lt; folder = refl; name = good }))
    (λ bad. let fault = sym (cond-false _ _ _ bad) ∙ h in cc)
    (cases_Bool (is_component name))

written_two : (rank : ℕ) (below folder name : List ℕ) (path : PathParts) → folder ++ 47 ∷ name ≡ below
    → path_below rank (folder ∷ name ∷ []) ≡ Ok path → IsWritten rank below path
written_two rank below folder name path e h = ⊎_elim
    (λ good.
    let same : ◌≡◌ {A = PathParts} (record { rank = rank; folder = folder; name = name }) path = let ok = sym (cond-true _ _ _ good) ∙ h in cc in
    let both = and_parts _ _ good in
    let filled : nat_lt 0 (length folder) ≡ true = (and_parts _ _ (and_parts _ _ (and_parts _ _ both.0).0).0).0 in
    subst (IsWritten rank below) same (
      ap (λ t. t ++ name) (cond-true _ _ _ filled) ∙ append_assoc folder (47 ∷ []) name ∙ e,
      refl,
      λ lt. record { directory = lt; folder = or_right _ _ both.0; name = both.1 },
    ))
    (λ bad. let fault = sym (cond-false _ _ _ bad) ∙ h in cc)
    (cases_Bool (is_component folder && is_component name))

written_below : (rank : ℕ) (below : List ℕ) (parts : List (List ℕ)) (path : PathParts) → join_with_byte 47 parts ≡ below
    → path_below rank parts ≡ Ok path → IsWritten rank below path
written_below rank below [] path e h = cc (h)
written_below rank below (name ∷ []) path e h = written_one rank below name path e h
written_below rank below (folder ∷ name ∷ []) path e h = written_two rank below folder name path e h
written_below rank below (first ∷ second ∷ third ∷ rest) path e h = cc (h)

written_within : (text : List ℕ) (path : PathParts) (o : Option (ℕ × List ℕ)) → located text ≡ o
    → path_within o ≡ Ok path → (text_of path ≡ text) × IsPath path
unfolding text_of
written_within text path None at h = cc (h)
written_within text path (Some (rank, below)) at h =
    let found = located_sound text rank below at in
    let written = written_below rank below (slice_split is_slash below) path (join_with_byte-slice_split 47 below) h in (
      ap (λ n. directory_of n ++ 47 ∷ below_of path.folder path.name) written.1 ∙ ap (λ t. directory_of rank ++ 47 ∷ t) written.0 ∙ sym found.1,
      written.2 found.0,
    )

written_back : (text : List ℕ) (path : PathParts) → path_of text ≡ Ok path → (text_of path ≡ text) × IsPath path
unfolding path_of
written_back text path h = written_within text path (located text) refl h

-- paths and texts determine each other
pub are_their_texts : AreTheirTexts
are_their_texts = record { read_back = read_back; written_back = written_back }
