-- Each edit is spelled by its cells.
use Rattle.std.proofs.Common.{◌≡◌, ℕ, List, [], ◌∷◌, ◌++◌, map, Some, refl, ap, sym, ◌∙◌, append_assoc}
use Rattle.std.proofs.lemmas.Bool.{cond-true}
use Rattle.std.specs.Prelude.{IsPermutation}
use Rattle.std.specs.List.{AllByRecursion}
use Rattle.sqlite_trees.proofs.ListLemmas.{IsPermutation-flat_map}
use Rattle.std.specs.Option.{option_to_list}
use Rattle.load_places.specs.TextLaws.{places_their_texts}
use Rattle.edit_sums.specs.Contents.{bytes_of, sort_of}
use Rattle.edit_sums.specs.declared.contents.Content.{Content}
use Rattle.edit_sums.specs.declared.contents.Content.TheVariants.{Gone, Link, File}
use Rattle.edit_sums.specs.declared.entries.Edit.{Edit}
use Rattle.edit_log.specs.declared.logs.LogRow.{LogRow}
use Rattle.edit_log.specs.Logs.{stamped}
use Rattle.sqlite_log.specs.Cells.{Cells, cells_of, content_in, IsContent, IsEdit, ok_of, row_in, row_with, rows_in}

content_back : (c : Content) → IsContent c → content_in (sort_of c) (bytes_of c) ≡ Some c
content_back Gone fits = refl
content_back (Link target) fits = ap ok_of (cond-true _ _ _ fits)
content_back (File bytes) fits = ap ok_of (cond-true _ _ _ fits)

-- what the cells of an edit spell is the edit
pub spelled : (time : ℕ) (e : Edit) → IsEdit e → row_in (cells_of time e) ≡ Some (record { edit = e; time = time })
spelled time e fits =
    ap (λ p. row_with (cells_of time e) (ok_of p) (content_in (sort_of e.content) (bytes_of e.content))) (places_their_texts.read_back e.place fits.scope fits.path)
    ∙ ap (λ c. row_with (cells_of time e) (Some e.place) c) (content_back e.content fits.content)

pub rows_in-append : (xs ys : List Cells) → rows_in (xs ++ ys) ≡ rows_in xs ++ rows_in ys
rows_in-append [] ys = refl
rows_in-append (x ∷ xs) ys = ap (λ l. option_to_list (row_in x) ++ l) (rows_in-append xs ys) ∙ sym (append_assoc (option_to_list (row_in x)) (rows_in xs) (rows_in ys))

-- the rows that are spelled don't depend on the order
pub rows_in-permutation : (xs ys : List Cells) → IsPermutation xs ys → IsPermutation (rows_in xs) (rows_in ys)
rows_in-permutation = IsPermutation-flat_map (λ c. option_to_list (row_in c))

-- the cells of edits spell these edits
pub all_spelled : (time : ℕ) (es : List Edit) → AllByRecursion IsEdit es → rows_in (map (cells_of time) es) ≡ stamped time es
all_spelled time [] fits = refl
all_spelled time (e ∷ es) fits = λ i. option_to_list (spelled time e fits.0 i) ++ all_spelled time es fits.1 i

-- cells that each spell a row
pub rows_read : (cs : List Cells) (rows : List LogRow) → map row_in cs ≡ map Some rows → rows_in cs ≡ rows
rows_read [] [] e = refl
rows_read [] (r ∷ rows) e = cc (e)
rows_read (c ∷ cs) [] e = cc (e)
rows_read (c ∷ cs) (r ∷ rows) e =
    let parts = same_cons (row_in c) (Some r) (map row_in cs) (map Some rows) e in
    λ i. option_to_list (parts.0 i) ++ rows_read cs rows parts.1 i
  where
    same_cons : {X : Type 0} (x y : X) (xs ys : List X) → ◌≡◌ {A = List X} (x ∷ xs) (y ∷ ys) → (x ≡ y) × (xs ≡ ys)
    same_cons x y xs ys h = (cc, cc)
