-- Names and notes, one word or one value at a time.
use Rattle.std.proofs.Common.{◌++◌, ◌≡◌}
use Rattle.setting_rules.proofs.Prelude.{ap, DepKind, faults_by, filter_map-append, flat_map, flat_map-append, key_for, List, map, map-append, Name, named_by, names_by, note_on, result_err, result_ok, SettingNote, Text, words_of, ◌∙◌}

abbrev pub noted_by : Name → DepKind → List Text → List SettingNote
noted_by unit kind ws = map (note_on (key_for kind)) (faults_by unit ws)

pub names_by-append : (unit : Name) (xs ys : List Text) → names_by unit (xs ++ ys) ≡ names_by unit xs ++ names_by unit ys
names_by-append unit xs ys = filter_map-append (λ w. result_ok (named_by unit w)) xs ys

pub noted_by-append : (unit : Name) (kind : DepKind) (xs ys : List Text) → noted_by unit kind (xs ++ ys) ≡ noted_by unit kind xs ++ noted_by unit kind ys
noted_by-append unit kind xs ys =
    ap (map (note_on (key_for kind))) (filter_map-append (λ w. result_err (named_by unit w)) xs ys) ∙ map-append (note_on (key_for kind)) (faults_by unit xs) (faults_by unit ys)

-- the same for views of elements, and for the words of values
module _ {B : Type 0} (made : List Text → List B) (made-append : (xs ys : List Text) → made (xs ++ ys) ≡ made xs ++ made ys) where
  pub by_elements : {X : Type 0} (v : X → Text) (xs ys : List X) → made (map v (xs ++ ys)) ≡ made (map v xs) ++ made (map v ys)
  by_elements v xs ys = ap made (map-append v xs ys) ∙ made-append (map v xs) (map v ys)

  pub by_words : (xs ys : List Text) → made (flat_map words_of (xs ++ ys)) ≡ made (flat_map words_of xs) ++ made (flat_map words_of ys)
  by_words xs ys = ap made (flat_map-append words_of xs ys) ∙ made-append (flat_map words_of xs) (flat_map words_of ys)
