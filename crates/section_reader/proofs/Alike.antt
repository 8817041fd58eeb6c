-- Lines that differ only by comments, blank lines and line numbers read the same.
use Rattle.std.proofs.Common.{◌++◌, ◌+◌, ◌-◌, ◌∷◌, ◌≡◌, ◌⊎◌}
use Rattle.section_reader.proofs.Prelude.{[], ap, append_assoc, ArePlainLines, arith, Assignment, BadHeader, Blank, BlankLinesChangeNumbersAlone, Bool, Comment, CommentsChangeNumbersAlone, cond, Continued, ContinuedLinesAreJoined, false, filter, FirstBlankLineChangesNumbersAlone, flat_map, form, going_on, going_on-line, has_bytes, has_text, header_name, is_bracketed, joined, joined_lines, joined_lines-line, kind_of, length, length-append, Line, LineForm, lines_following, lines_following-line, List, map, map-append, NoEquals, None, Note, note, Option, OutsideSection, pair_of, physical_lines-file, refl, said, SameButNumbers, section_items, section_notes, Some, spaced, sym, take_at, text_of_lines, trimmed, trimmed_line, true, Whole, ℕ, ⊎_elim, ◌∙◌}
use Rattle.section_reader.specs.{Lines.{numbered}, Logical.{logical_lines, logical_of}, Sections.{assigned, assignments_in, assignments_of, notes_following, notes_in, notes_of, unassigned, up_to_bracket}}

abbrev text_of : Line → List ℕ
text_of line = line.text

-- the same texts, except for comments, for blank lines after whole or blank lines, and for continued lines that are
-- joined
data Alike : List Line → List Line → Type 0 where
  none : Alike [] []
  one : (x y : Line) (xs ys : List Line) → x.text ≡ y.text → Alike xs ys → Alike (x ∷ xs) (y ∷ ys)
  comment : (x : Line) (xs ys : List Line) → form x.text ≡ Comment → Alike xs ys → Alike (x ∷ xs) ys
  blank : (x b y : Line) (xs ys : List Line) → x.text ≡ y.text → (form x.text ≡ Whole) ⊎ (form x.text ≡ Blank) → form b.text ≡ Blank → Alike xs ys → Alike (x ∷ b ∷ xs) (y ∷ ys)
  cut : (x b y : Line) (xs ys : List Line) → form x.text ≡ Continued → form b.text ≡ Whole → form y.text ≡ Whole → spaced x.text ++ b.text ≡ y.text → Alike xs ys → Alike (x ∷ b ∷ xs) (y ∷ ys)

-- such lines give the same joined lines and the same continuation
record SaysSame (xs ys : List Line) : Type 0 where
  more : going_on xs ≡ going_on ys
  here : map text_of (joined_lines xs) ≡ map text_of (joined_lines ys)
  following : map text_of (lines_following xs) ≡ map text_of (lines_following ys)

texts : List Line → List (List ℕ)
texts lines = map text_of lines

both_sides : {A : Type 0} (a b c d : A) → a ≡ b → b ≡ c → d ≡ c → a ≡ d
both_sides a b c d p q r = p ∙ q ∙ sym r

same_cons : (x y : List ℕ) (xs ys : List (List ℕ)) → x ≡ y → xs ≡ ys → x ∷ xs ≡ y ∷ ys
same_cons x y xs ys p q = ap (λ v. v ∷ xs) p ∙ ap (λ v. y ∷ v) q

one_says : (f : LineForm) (x y : Line) (xs ys : List Line) → form x.text ≡ f → form y.text ≡ f → x.text ≡ y.text → SaysSame xs ys → SaysSame (x ∷ xs) (y ∷ ys)
one_says Blank x y xs ys p q same says = record {
  more = both_sides _ _ _ _ (going_on-line Blank x xs p) refl (going_on-line Blank y ys q);
  here = both_sides _ _ _ _ (ap (map text_of) (joined_lines-line Blank x xs p)) says.here (ap (map text_of) (joined_lines-line Blank y ys q));
  following = both_sides _ _ _ _ (ap (map text_of) (lines_following-line Blank x xs p)) says.here (ap (map text_of) (lines_following-line Blank y ys q));
}
one_says Comment x y xs ys p q same says = record {
  more = both_sides _ _ _ _ (going_on-line Comment x xs p) says.more (going_on-line Comment y ys q);
  here = both_sides _ _ _ _ (ap (map text_of) (joined_lines-line Comment x xs p)) says.here (ap (map text_of) (joined_lines-line Comment y ys q));
  following = both_sides _ _ _ _ (ap (map text_of) (lines_following-line Comment x xs p)) says.following (ap (map text_of) (lines_following-line Comment y ys q));
}
one_says Continued x y xs ys p q same says =
    let text = ap (λ t. spaced t ++ going_on xs) same ∙ ap (λ v. spaced y.text ++ v) says.more in
    record {
      more = both_sides _ _ _ _ (going_on-line Continued x xs p) text (going_on-line Continued y ys q);
      here = both_sides _ _ _ _ (ap (map text_of) (joined_lines-line Continued x xs p)) (same_cons _ _ _ _ text says.following) (ap (map text_of) (joined_lines-line Continued y ys q));
      following = both_sides _ _ _ _ (ap (map text_of) (lines_following-line Continued x xs p)) says.following (ap (map text_of) (lines_following-line Continued y ys q));
    }
one_says Whole x y xs ys p q same says = record {
  more = both_sides _ _ _ _ (going_on-line Whole x xs p) same (going_on-line Whole y ys q);
  here = both_sides _ _ _ _ (ap (map text_of) (joined_lines-line Whole x xs p)) (same_cons _ _ _ _ same says.here) (ap (map text_of) (joined_lines-line Whole y ys q));
  following = both_sides _ _ _ _ (ap (map text_of) (lines_following-line Whole x xs p)) says.here (ap (map text_of) (lines_following-line Whole y ys q));
}

comment_says : (x : Line) (xs ys : List Line) → form x.text ≡ Comment → SaysSame xs ys → SaysSame (x ∷ xs) ys
comment_says x xs ys p says = record {
  more = going_on-line Comment x xs p ∙ says.more;
  here = ap (map text_of) (joined_lines-line Comment x xs p) ∙ says.here;
  following = ap (map text_of) (lines_following-line Comment x xs p) ∙ says.following;
}

blank_says : (x b y : Line) (xs ys : List Line) → x.text ≡ y.text → (form x.text ≡ Whole) ⊎ (form x.text ≡ Blank) → form b.text ≡ Blank → SaysSame xs ys → SaysSame (x ∷ b ∷ xs) (y ∷ ys)
blank_says x b y xs ys same is q says =
    let passed = ap (map text_of) (joined_lines-line Blank b xs q) ∙ says.here in
    ⊎_elim
    (λ (p : form x.text ≡ Whole). let r : form y.text ≡ Whole = sym (ap form same) ∙ p in record {
      more = both_sides _ _ _ _ (going_on-line Whole x (b ∷ xs) p) same (going_on-line Whole y ys r);
      here = both_sides _ _ _ _ (ap (map text_of) (joined_lines-line Whole x (b ∷ xs) p)) (same_cons _ _ _ _ same passed) (ap (map text_of) (joined_lines-line Whole y ys r));
      following = both_sides _ _ _ _ (ap (map text_of) (lines_following-line Whole x (b ∷ xs) p)) passed (ap (map text_of) (lines_following-line Whole y ys r));
    })
    (λ (p : form x.text ≡ Blank). let r : form y.text ≡ Blank = sym (ap form same) ∙ p in record {
      more = both_sides _ _ _ _ (going_on-line Blank x (b ∷ xs) p) refl (going_on-line Blank y ys r);
      here = both_sides _ _ _ _ (ap (map text_of) (joined_lines-line Blank x (b ∷ xs) p)) passed (ap (map text_of) (joined_lines-line Blank y ys r));
      following = both_sides _ _ _ _ (ap (map text_of) (lines_following-line Blank x (b ∷ xs) p)) passed (ap (map text_of) (lines_following-line Blank y ys r));
    })
    is

cut_says : (x b y : Line) (xs ys : List Line) → form x.text ≡ Continued → form b.text ≡ Whole → form y.text ≡ Whole → spaced x.text ++ b.text ≡ y.text → SaysSame xs ys → SaysSame (x ∷ b ∷ xs) (y ∷ ys)
cut_says x b y xs ys p q r same says =
    let text = ap (λ v. spaced x.text ++ v) (going_on-line Whole b xs q) ∙ same in
    let after = ap (map text_of) (lines_following-line Whole b xs q) ∙ says.here in
    record {
      more = both_sides _ _ _ _ (going_on-line Continued x (b ∷ xs) p) text (going_on-line Whole y ys r);
      here = both_sides _ _ _ _ (ap (map text_of) (joined_lines-line Continued x (b ∷ xs) p)) (same_cons _ _ _ _ text after) (ap (map text_of) (joined_lines-line Whole y ys r));
      following = both_sides _ _ _ _ (ap (map text_of) (lines_following-line Continued x (b ∷ xs) p)) after (ap (map text_of) (lines_following-line Whole y ys r));
    }

alike_says : {xs ys : List Line} → Alike xs ys → SaysSame xs ys
alike_says none = record { more = refl; here = refl; following = refl }
alike_says (one x y xs ys same alike) = one_says (form x.text) x y xs ys refl (sym (ap form same)) same (alike_says alike)
alike_says (comment x xs ys is alike) = comment_says x xs ys is (alike_says alike)
alike_says (blank x b y xs ys same is q alike) = blank_says x b y xs ys same is q (alike_says alike)
alike_says (cut x b y xs ys p q r same alike) = cut_says x b y xs ys p q r same (alike_says alike)

-- Logical lines.

kept_text : (keep : Bool) (line : Line) (rest : List Line) → map text_of (cond keep (line ∷ rest) rest) ≡ cond keep (line.text ∷ map text_of rest) (map text_of rest)
kept_text true line rest = refl
kept_text false line rest = refl

logical_texts : (lines : List Line) → map text_of (filter has_text (map trimmed_line lines)) ≡ filter has_bytes (map trimmed (map text_of lines))
logical_texts [] = refl
logical_texts (line ∷ lines) =
    kept_text (has_bytes (trimmed line.text)) (trimmed_line line) (filter has_text (map trimmed_line lines))
    ∙ ap (λ v. cond (has_bytes (trimmed line.text)) (trimmed line.text ∷ v) v) (logical_texts lines)

logical_same : (xs ys : List Line) → map text_of (joined_lines xs) ≡ map text_of (joined_lines ys) → map text_of (logical_of xs) ≡ map text_of (logical_of ys)
unfolding logical_of
logical_same xs ys same = logical_texts (joined_lines xs) ∙ ap (λ v. filter has_bytes (map trimmed v)) same ∙ sym (logical_texts (joined_lines ys))

-- Assignments and notes.

-- induction over two lists of lines with the same texts
by_texts : (P : List Line → List Line → Type 0) → P [] []
    → ((x y : Line) (xs ys : List Line) → x.text ≡ y.text → map text_of xs ≡ map text_of ys → P xs ys → P (x ∷ xs) (y ∷ ys))
    → (xs ys : List Line) → map text_of xs ≡ map text_of ys → P xs ys
by_texts P start grow [] [] same = start
by_texts P start grow [] (y ∷ ys) same = absurd (cc)
by_texts P start grow (x ∷ xs) [] same = absurd (cc)
by_texts P start grow (x ∷ xs) (y ∷ ys) same =
    let head : x.text ≡ y.text = cc in
    let tail : map text_of xs ≡ map text_of ys = cc in
    grow x y xs ys head tail (by_texts P start grow xs ys tail)

-- the results of lines, seen through a function for which only the text counts
each_same : {A B : Type 0} (give : Line → List A) (see : A → B) → ((x y : Line) → x.text ≡ y.text → map see (give x) ≡ map see (give y))
    → (xs ys : List Line) → map text_of xs ≡ map text_of ys → map see (flat_map give xs) ≡ map see (flat_map give ys)
each_same give see each = by_texts (λ xs ys. map see (flat_map give xs) ≡ map see (flat_map give ys)) refl
    (λ x y xs ys head tail more. both_sides _ _ _ _
    (map-append see (give x) (flat_map give xs))
    (ap (λ v. v ++ map see (flat_map give xs)) (each x y head) ∙ ap (λ v. map see (give y) ++ v) more)
    (map-append see (give y) (flat_map give ys)))

block_same : (xs ys : List Line) → map text_of xs ≡ map text_of ys → map text_of (up_to_bracket xs) ≡ map text_of (up_to_bracket ys)
unfolding up_to_bracket
block_same = by_texts (λ xs ys. map text_of (up_to_bracket xs) ≡ map text_of (up_to_bracket ys)) refl
    (λ x y xs ys head tail more.
    shut x y xs ys (is_bracketed x.text) (is_bracketed y.text) (ap is_bracketed head) (same_cons _ _ _ _ head more))
  where
    shut : (x y : Line) (xs ys : List Line) (b c : Bool) → b ≡ c → map text_of (x ∷ up_to_bracket xs) ≡ map text_of (y ∷ up_to_bracket ys)
        → map text_of (cond b [] (x ∷ up_to_bracket xs)) ≡ map text_of (cond c [] (y ∷ up_to_bracket ys))
    shut x y xs ys true true e rest = refl
    shut x y xs ys true false e rest = absurd (cc)
    shut x y xs ys false true e rest = absurd (cc)
    shut x y xs ys false false e rest = rest

said_here : (pair : Option (List ℕ × List ℕ)) (section : List ℕ) (k n : ℕ)
    → map said (elim pair as (λ _. List Assignment) [ None ↦ [] | Some p ↦ record { section = section; key = p.0; value = p.1; line = k } ∷ [] ])
    ≡ map said (elim pair as (λ _. List Assignment) [ None ↦ [] | Some p ↦ record { section = section; key = p.0; value = p.1; line = n } ∷ [] ])
said_here None section k n = refl
said_here (Some p) section k n = refl

assigned_same : (section : List ℕ) (x y : Line) → x.text ≡ y.text → map said (assigned section x) ≡ map said (assigned section y)
unfolding assigned
assigned_same section x y same =
    said_here (pair_of x.text) section x.number y.number ∙ ap (λ t. map said (assigned section (record { number = y.number; text = t }))) same

named_same : (name : Option (List ℕ)) (us vs : List Line) → map text_of us ≡ map text_of vs
    → map said (elim name as (λ _. List Assignment) [ None ↦ [] | Some n ↦ flat_map (assigned n) us ]) ≡ map said (elim name as (λ _. List Assignment) [ None ↦ [] | Some n ↦ flat_map (assigned n) vs ])
named_same None us vs same = refl
named_same (Some n) us vs same = each_same (assigned n) said (assigned_same n) us vs same

items_same : (xs ys : List Line) → map text_of xs ≡ map text_of ys → map said (assignments_in xs) ≡ map said (assignments_in ys)
unfolding assignments_in
items_same = by_texts (λ xs ys. map said (assignments_in xs) ≡ map said (assignments_in ys)) refl
    (λ x y xs ys head tail more.
    let section = named_same (header_name x.text) (up_to_bracket xs) (up_to_bracket ys) (block_same xs ys tail) ∙ ap (λ t. map said (section_items (record { number = y.number; text = t }) ys)) head in
    both_sides _ _ _ _
    (map-append said (section_items x xs) (assignments_in xs))
    (ap (λ v. v ++ map said (assignments_in xs)) section ∙ ap (λ v. map said (section_items y ys) ++ v) more)
    (map-append said (section_items y ys) (assignments_in ys)))

missing_here : (pair : Option (List ℕ × List ℕ)) (x y : Line)
    → map kind_of (elim pair as (λ _. List Note) [ None ↦ note NoEquals x ∷ [] | Some p ↦ [] ]) ≡ map kind_of (elim pair as (λ _. List Note) [ None ↦ note NoEquals y ∷ [] | Some p ↦ [] ])
missing_here None x y = refl
missing_here (Some p) x y = refl

unassigned_same : (x y : Line) → x.text ≡ y.text → map kind_of (unassigned x) ≡ map kind_of (unassigned y)
unfolding unassigned
unassigned_same x y same = missing_here (pair_of x.text) x y ∙ ap (λ t. map kind_of (unassigned (record { number = y.number; text = t }))) same

outside_same : (xs ys : List Line) → map text_of xs ≡ map text_of ys → map kind_of (map (note OutsideSection) xs) ≡ map kind_of (map (note OutsideSection) ys)
outside_same = by_texts (λ xs ys. map kind_of (map (note OutsideSection) xs) ≡ map kind_of (map (note OutsideSection) ys)) refl
    (λ x y xs ys head tail more. ap (λ v. OutsideSection ∷ v) more)

header_same : (bracketed : Bool) (name : Option (List ℕ)) (x y : Line) (us vs : List Line) → map text_of us ≡ map text_of vs
    → map kind_of (cond bracketed (elim name as (λ _. List Note) [ None ↦ note BadHeader x ∷ [] | Some n ↦ flat_map unassigned us ]) [])
    ≡ map kind_of (cond bracketed (elim name as (λ _. List Note) [ None ↦ note BadHeader y ∷ [] | Some n ↦ flat_map unassigned vs ]) [])
header_same true None x y us vs same = refl
header_same true (Some n) x y us vs same = each_same unassigned kind_of unassigned_same us vs same
header_same false name x y us vs same = refl

notes_following_same : (xs ys : List Line) → map text_of xs ≡ map text_of ys → map kind_of (notes_following xs) ≡ map kind_of (notes_following ys)
unfolding notes_following
notes_following_same = by_texts (λ xs ys. map kind_of (notes_following xs) ≡ map kind_of (notes_following ys)) refl
    (λ x y xs ys head tail more.
    let own = λ (line : Line) (rest : List Line). cond (is_bracketed line.text) (section_notes line rest) [] in
    let section = header_same (is_bracketed x.text) (header_name x.text) x y (up_to_bracket xs) (up_to_bracket ys) (block_same xs ys tail) ∙ ap (λ t. map kind_of (own (record { number = y.number; text = t }) ys)) head in
    both_sides _ _ _ _
    (map-append kind_of (own x xs) (notes_following xs))
    (ap (λ v. v ++ map kind_of (notes_following xs)) section ∙ ap (λ v. map kind_of (own y ys) ++ v) more)
    (map-append kind_of (own y ys) (notes_following ys)))

notes_same : (xs ys : List Line) → map text_of xs ≡ map text_of ys → map kind_of (notes_in xs) ≡ map kind_of (notes_in ys)
unfolding notes_in
notes_same xs ys same =
    both_sides _ _ _ _
    (map-append kind_of (map (note OutsideSection) (up_to_bracket xs)) (notes_following xs))
    (ap (λ v. v ++ map kind_of (notes_following xs)) (outside_same (up_to_bracket xs) (up_to_bracket ys) (block_same xs ys same))
    ∙ ap (λ v. map kind_of (map (note OutsideSection) (up_to_bracket ys)) ++ v) (notes_following_same xs ys same))
    (map-append kind_of (map (note OutsideSection) (up_to_bracket ys)) (notes_following ys))

-- Files.

alike_numbered : (n m : ℕ) (ts : List (List ℕ)) → Alike (numbered n ts) (numbered m ts)
unfolding numbered
alike_numbered n m [] = none
alike_numbered n m (t ∷ ts) = one _ _ _ _ refl (alike_numbered (n + 1) (m + 1) ts)

alike_comment : (n m : ℕ) (prefix back : List (List ℕ)) (c : List ℕ) → form c ≡ Comment → Alike (numbered n (prefix ++ c ∷ back)) (numbered m (prefix ++ back))
unfolding numbered
alike_comment n m [] back c is = comment _ _ _ is (alike_numbered (n + 1) m back)
alike_comment n m (t ∷ prefix) back c is = one _ _ _ _ refl (alike_comment (n + 1) (m + 1) prefix back c is)

alike_blank : (n m : ℕ) (prefix back : List (List ℕ)) (l b : List ℕ) → (form l ≡ Whole) ⊎ (form l ≡ Blank) → form b ≡ Blank
    → Alike (numbered n (prefix ++ l ∷ b ∷ back)) (numbered m (prefix ++ l ∷ back))
unfolding numbered
alike_blank n m [] back l b is blank_is = blank _ _ _ _ _ refl is blank_is (alike_numbered (n + 1 + 1) (m + 1) back)
alike_blank n m (t ∷ prefix) back l b is blank_is = one _ _ _ _ refl (alike_blank (n + 1) (m + 1) prefix back l b is blank_is)

-- the backslash is replaced by a space
spaced-cut : (start end : List ℕ) → spaced (start ++ 92 ∷ []) ++ end ≡ start ++ 32 ∷ end
spaced-cut start end =
    let at : length start ≡ length (start ++ 92 ∷ []) - 1 = omega (arith, length-append start (92 ∷ [])) in
    ap (λ v. (v ++ 32 ∷ []) ++ end) (take_at start (92 ∷ []) (length (start ++ 92 ∷ []) - 1) at) ∙ append_assoc start (32 ∷ []) end

alike_cut : (n m : ℕ) (prefix back : List (List ℕ)) (start end : List ℕ) → form (start ++ 92 ∷ []) ≡ Continued → form end ≡ Whole → form (start ++ 32 ∷ end) ≡ Whole
    → Alike (numbered n (prefix ++ (start ++ 92 ∷ []) ∷ end ∷ back)) (numbered m (prefix ++ (start ++ 32 ∷ end) ∷ back))
unfolding numbered
alike_cut n m [] back start end p q r = cut _ _ _ _ _ p q r (spaced-cut start end) (alike_numbered (n + 1 + 1) (m + 1) back)
alike_cut n m (t ∷ prefix) back start end p q r = one _ _ _ _ refl (alike_cut (n + 1) (m + 1) prefix back start end p q r)

joined_same : (xs ys : List (List ℕ)) → ArePlainLines xs → ArePlainLines ys → map text_of (joined_lines (numbered 1 xs)) ≡ map text_of (joined_lines (numbered 1 ys))
    → SameButNumbers (text_of_lines xs) (text_of_lines ys)
unfolding assignments_of notes_of logical_lines
joined_same xs ys p q same =
    let logical = both_sides _ _ _ _
    (ap (λ v. map text_of (logical_of v)) (physical_lines-file xs p))
    (logical_same (numbered 1 xs) (numbered 1 ys) same)
    (ap (λ v. map text_of (logical_of v)) (physical_lines-file ys q)) in
    (items_same _ _ logical, notes_same _ _ logical)

pub comments_change_numbers_alone : CommentsChangeNumbersAlone
comments_change_numbers_alone prefix back c is p q = joined_same _ _ p q (alike_says (alike_comment 1 1 prefix back c is)).here

pub blank_lines_change_numbers_alone : BlankLinesChangeNumbersAlone
blank_lines_change_numbers_alone prefix back l b is blank_is p q = joined_same _ _ p q (alike_says (alike_blank 1 1 prefix back l b is blank_is)).here

pub first_blank_line_changes_numbers_alone : FirstBlankLineChangesNumbersAlone
unfolding numbered
first_blank_line_changes_numbers_alone back b is p q =
    joined_same (b ∷ back) back p q (ap (map text_of) (joined_lines-line Blank (record { number = 1; text = b }) (numbered 2 back) is) ∙ (alike_says (alike_numbered 2 1 back)).here)

pub continued_lines_are_joined : ContinuedLinesAreJoined
continued_lines_are_joined prefix back start end is whole joined p q = joined_same _ _ p q (alike_says (alike_cut 1 1 prefix back start end is whole joined)).here
