-- Each part of a pair that is read is the part that was written, and what was written is read again.
use Rattle.std.proofs.Common.{◌≡◌, ℕ, ◌^◌, ◌<◌, Bool, true, false, cond, ltb, eqb, List, [], ◌∷◌, ◌++◌, length, ◌⊎◌, ◌≤◌, Result, Ok, Err, IsTrue, refl, ap, subst, ◌∙◌, ⊎_elim, arith}
use Rattle.std.specs.Prelude.{not, ◌||◌, ◌&&◌, nat_le}
use Rattle.std.specs.List.{list_all}
use Rattle.std.proofs.lemmas.Bool.{leb-true, cases_lt, ltb-true, lt-ltb, eqb-true, and_parts}
use Rattle.std.proofs.lemmas.List.{nil_from_length}
use Rattle.byte_fields.specs.declared.faults.SpellingFault.{SpellingFault}
use Rattle.byte_fields.specs.declared.faults.SpellingFault.TheVariants as fault
use Rattle.byte_fields.specs.Spelling.{number, short_string, long_string}
use Rattle.byte_fields.specs.Reading.{◌>>=◌, byte_at, number_at, short_string_at, long_string_at}
use Rattle.byte_fields.specs.Laws.{IsBytes, Takes}
use Rattle.byte_fields.specs.FieldLaws.{not_zero, bind_ok, chosen, ok_is, Takes-then, byte_taken, fields_their_bytes}
use Rattle.byte_fields.specs.Composing.{IsField, two, passed}
use Rattle.join_law.specs.declared.versions.Version.{Version}
use Rattle.load_path.specs.Paths.{PathParts, IsPath, has_folder, is_component, is_component_byte, is_dots}
use Rattle.load_places.specs.Hosts.{is_host, is_host_byte}
use Rattle.load_places.specs.Texts.{IsScope}
use Rattle.load_places.specs.declared.places.Scope.{Scope}
use Rattle.load_places.specs.declared.places.Scope.TheVariants.{Fleet, Host}
use Rattle.edit_sums.specs.declared.contents.Content.{Content}
use Rattle.edit_sums.specs.declared.contents.Content.TheVariants.{Gone, Link, File}
use Rattle.edit_sums.specs.Limits.{is_target, is_file, is_graphic}
use Rattle.store_bytes.specs.Spelling.{scope, path, place, version, content, entry, IsContent, IsPlace, IsVersion, IsEntry}
use Rattle.store_bytes.specs.Reading.{scope_from, scope_at, is_path, components_at, parts_at, path_at, place_at, numbers_at, version_at, target_at, text_at, link_from, file_from, content_from, content_at, entry_at}

-- ---- bytes, numbers, strings

abbrev pub one_byte : ℕ → List ℕ
one_byte b = b ∷ []

pub byte_field : IsField byte_at one_byte (λ b. b < 256)
byte_field = record { takes = λ bytes x fits e. byte_taken bytes x.0 x.1 fits e; again = λ a rest fits. refl }

pub number_field : IsField number_at number (λ n. n < 2 ^ 64)
number_field = record { takes = λ bytes x fits e. fields_their_bytes.number_taken bytes x.0 x.1 fits e; again = fields_their_bytes.number_back }

short_field : IsField short_string_at short_string (λ s. length s < 256)
short_field = record { takes = λ bytes x fits e. fields_their_bytes.short_taken bytes x.0 x.1 fits e; again = fields_their_bytes.short_back }

long_field : IsField long_string_at long_string (λ s. length s < 2 ^ 64)
long_field = record { takes = λ bytes x fits e. fields_their_bytes.long_taken bytes x.0 x.1 fits e; again = fields_their_bytes.long_back }

-- ---- scopes

scope_takes : (bytes : List ℕ) (x : Scope × List ℕ) → IsBytes bytes → scope_at bytes ≡ Ok x → Takes bytes (scope x.0) x.1 × IsScope x.0
unfolding scope_at
scope_takes bytes x fits e =
    let b = bind_ok (short_string_at bytes) scope_from x e in
    let t = fields_their_bytes.short_taken bytes b.0.0 b.0.1 fits b.1 in
    ⊎_elim
    (λ none.
    let nil : b.0.0 ≡ [] = nil_from_length b.0.0 (eqb-true _ _ none.0) in
    subst (λ (y : Scope × List ℕ). Takes bytes (scope y.0) y.1 × IsScope y.0) (ok_is (Fleet, b.0.1) x none.1) (subst (λ (h : List ℕ). Takes bytes (short_string h) b.0.1) nil t.0, tt))
    (λ some. ⊎_elim
    (λ good. subst (λ (y : Scope × List ℕ). Takes bytes (scope y.0) y.1 × IsScope y.0) (ok_is (Host b.0.0, b.0.1) x good.1) (t.0, good.0))
    (λ bad. let wrong = bad.1 in absurd cc)
    (chosen (is_host b.0.0) (Ok (Host b.0.0, b.0.1)) (Err fault.Host) (Ok x) some.1))
    (chosen (eqb (length b.0.0) 0) (Ok (Fleet, b.0.1)) (cond (is_host b.0.0) (Ok (Host b.0.0, b.0.1)) (Err fault.Host)) (Ok x) b.2)

scope_again : (s : Scope) (rest : List ℕ) → IsScope s → scope_at (scope s ++ rest) ≡ Ok (s, rest)
unfolding scope_at
scope_again Fleet rest is = ap (λ (r : Result (List ℕ × List ℕ) SpellingFault). r >>= scope_from) (fields_their_bytes.short_back [] rest (omega arith))
scope_again (Host h) rest is =
    let outer = and_parts (ltb 0 (length h) && nat_le (length h) 64) (list_all is_host_byte h) is in
    let inner = and_parts (ltb 0 (length h)) (nat_le (length h) 64) outer.0 in
    let some : eqb (length h) 0 ≡ false = not_zero (length h) (ltb-true _ _ inner.0) in
    let within : length h ≤ 64 = leb-true _ _ inner.1 in
    let small : length h < 256 = omega (arith, within) in
    ap (λ (r : Result (List ℕ × List ℕ) SpellingFault). r >>= scope_from) (fields_their_bytes.short_back h rest small)
    ∙ ap (λ b. cond b (Ok (Fleet, rest)) (cond (is_host h) (Ok (Host h, rest)) (Err fault.Host))) some
    ∙ ap (λ b. cond b (Ok (Host h, rest)) (Err fault.Host)) is

pub scope_field : IsField scope_at scope IsScope
scope_field = record { takes = scope_takes; again = scope_again }

-- ---- paths

abbrev components : List ℕ × List ℕ → List ℕ
components c = short_string c.0 ++ short_string c.1

abbrev AreShort : List ℕ × List ℕ → Type 0
AreShort c = (length c.0 < 256) × (length c.1 < 256)

components_field : IsField components_at components AreShort
unfolding components_at
components_field = two short_string_at short_string (λ s. length s < 256) short_string_at short_string (λ s. length s < 256) components AreShort (λ a b. (a, b)) short_field short_field
    (record { first = λ c. c.0; second = λ c. c.1; whole = λ c. refl; spelled = λ a b. refl; fits = λ a b p q. (p, q); first_fits = λ c r. r.0; second_fits = λ c r. r.1 })

pub record AreParts (p : PathParts) : Type 0 where
  pub rank : p.rank < 256
  pub folder : length p.folder < 256
  pub name : length p.name < 256

parts_field : IsField parts_at path AreParts
unfolding parts_at
parts_field = two byte_at one_byte (λ b. b < 256) components_at components AreShort path AreParts (λ r c. record { rank = r; folder = c.0; name = c.1 }) byte_field components_field
    (record {
      first = λ p. p.rank;
      second = λ p. (p.folder, p.name);
      whole = λ p. refl;
      spelled = λ a b. refl;
      fits = λ a b p q. record { rank = p; folder = q.0; name = q.1 };
      first_fits = λ p r. r.rank;
      second_fits = λ p r. (r.folder, r.name);
    })

component_short : (bytes : List ℕ) → is_component bytes ≡ true → length bytes < 256
component_short bytes is =
    let a = and_parts (ltb 0 (length bytes) && nat_le (length bytes) 255 && list_all is_component_byte bytes) (not (is_dots bytes)) is in
    let b = and_parts (ltb 0 (length bytes) && nat_le (length bytes) 255) (list_all is_component_byte bytes) a.0 in
    let c = and_parts (ltb 0 (length bytes)) (nat_le (length bytes) 255) b.0 in
    let within : length bytes ≤ 255 = leb-true _ _ c.1 in
    omega (arith, within)

folder_short : (p : PathParts) → (not (has_folder p) || is_component p.folder) ≡ true → length p.folder < 256
folder_short p is = ⊎_elim (λ few. few) (λ many. component_short p.folder (other (ltb 0 (length p.folder)) (is_component p.folder) (lt-ltb _ _ (omega arith)) is)) (few_or_many (length p.folder))
  where
    other : (b c : Bool) → b ≡ true → (not b || c) ≡ true → c ≡ true
    other true c some is = is
    other false c some is = absurd cc

    few_or_many : (n : ℕ) → (n < 256) ⊎ (256 ≤ n)
    few_or_many n = cases_lt n 256

three_parts : (a b c : Bool) → a ≡ true → b ≡ true → c ≡ true → (a && b && c) ≡ true
three_parts true true true p q r = refl
three_parts true true false p q r = absurd cc
three_parts true false c p q r = absurd cc
three_parts false b c p q r = absurd cc

pub path_field : IsField path_at path IsPath
unfolding path_at
path_field = passed parts_at path AreParts IsPath is_path fault.Path parts_field
    (record {
      fits = λ p parts is.
          let outer = and_parts (ltb p.rank 4 && (not (has_folder p) || is_component p.folder)) (is_component p.name) is in
          let inner = and_parts (ltb p.rank 4) (not (has_folder p) || is_component p.folder) outer.0 in
          record { directory = ltb-true _ _ inner.0; folder = inner.1; name = outer.1 };
      plain = λ p is. record { rank = omega (arith, is.directory); folder = folder_short p is.folder; name = component_short p.name is.name };
      passes = λ p is. three_parts _ _ _ (lt-ltb _ _ is.directory) is.folder is.name;
    })

-- ---- places

pub place_field : IsField place_at place IsPlace
unfolding place_at
place_field = two scope_at scope IsScope path_at path IsPath place IsPlace (λ s p. record { scope = s; path = p }) scope_field path_field
    (record {
      first = λ q. q.scope;
      second = λ q. q.path;
      whole = λ q. refl;
      spelled = λ a b. refl;
      fits = λ a b p q. record { scope = p; path = q };
      first_fits = λ q r. r.scope;
      second_fits = λ q r. r.path;
    })

-- ---- versions

pub record AreNumbers (v : Version) : Type 0 where
  pub counter : v.counter < 2 ^ 64
  pub writer : v.writer < 2 ^ 64

numbers_field : IsField numbers_at version AreNumbers
unfolding numbers_at
numbers_field = two number_at number (λ n. n < 2 ^ 64) number_at number (λ n. n < 2 ^ 64) version AreNumbers (λ c w. record { counter = c; writer = w }) number_field number_field
    (record {
      first = λ v. v.counter;
      second = λ v. v.writer;
      whole = λ v. refl;
      spelled = λ a b. refl;
      fits = λ a b p q. record { counter = p; writer = q };
      first_fits = λ v r. r.counter;
      second_fits = λ v r. r.writer;
    })

pub version_field : IsField version_at version IsVersion
unfolding version_at
version_field = passed numbers_at version AreNumbers IsVersion (λ v. ltb v.writer (2 ^ 32)) fault.Number numbers_field
    (record {
      fits = λ v are is. record { counter = are.counter; writer = ltb-true _ _ is };
      plain = λ v is. record { counter = is.counter; writer = omega (arith, is.writer) };
      passes = λ v is. lt-ltb _ _ is.writer;
    })

-- ---- contents

target_short : (t : List ℕ) → is_target t ≡ true → length t < 2 ^ 64
target_short t is =
    let a = and_parts (ltb 0 (length t) && nat_le (length t) 4095) (list_all is_graphic t) is in
    let b = and_parts (ltb 0 (length t)) (nat_le (length t) 4095) a.0 in
    let within : length t ≤ 4095 = leb-true _ _ b.1 in
    omega (arith, within)

target_field : IsField target_at long_string (λ t. IsTrue (is_target t))
unfolding target_at
target_field = passed long_string_at long_string (λ s. length s < 2 ^ 64) (λ t. IsTrue (is_target t)) is_target fault.Content long_field
    (record { fits = λ t p is. is; plain = λ t is. target_short t is; passes = λ t is. is })

file_short : (t : List ℕ) → is_file t ≡ true → length t < 2 ^ 64
file_short t is = let within : length t ≤ 65536 = leb-true _ _ is in omega (arith, within)

file_field : IsField text_at long_string (λ t. IsTrue (is_file t))
unfolding text_at
file_field = passed long_string_at long_string (λ s. length s < 2 ^ 64) (λ t. IsTrue (is_file t)) is_file fault.Content long_field
    (record { fits = λ t p is. is; plain = λ t is. file_short t is; passes = λ t is. is })

content_takes : (bytes : List ℕ) (x : Content × List ℕ) → IsBytes bytes → content_at bytes ≡ Ok x
    → Takes bytes (content x.0) x.1 × IsContent x.0
unfolding content_at
content_takes bytes x fits e =
    let b = bind_ok (byte_at bytes) content_from x e in
    let t = byte_taken bytes b.0.0 b.0.1 fits b.1 in
    ⊎_elim
    (λ gone.
    let is : b.0.0 ≡ 0 = eqb-true _ _ gone.0 in
    subst (λ (y : Content × List ℕ). Takes bytes (content y.0) y.1 × IsContent y.0) (ok_is (Gone, b.0.1) x gone.1) (subst (λ s. Takes bytes (s ∷ []) b.0.1) is t.0, tt))
    (λ more. ⊎_elim
    (λ link.
    let is : b.0.0 ≡ 1 = eqb-true _ _ link.0 in
    let l = bind_ok (target_at b.0.1) link_from x link.1 in
    let u = target_field.takes b.0.1 l.0 t.0.rest_fits l.1 in
    subst (λ (y : Content × List ℕ). Takes bytes (content y.0) y.1 × IsContent y.0) (ok_is (Link l.0.0, l.0.1) x l.2)
    (Takes-then bytes (1 ∷ []) b.0.1 (long_string l.0.0) l.0.1 (subst (λ s. Takes bytes (s ∷ []) b.0.1) is t.0) u.0, u.1))
    (λ further. ⊎_elim
    (λ file.
    let is : b.0.0 ≡ 2 = eqb-true _ _ file.0 in
    let l = bind_ok (text_at b.0.1) file_from x file.1 in
    let u = file_field.takes b.0.1 l.0 t.0.rest_fits l.1 in
    subst (λ (y : Content × List ℕ). Takes bytes (content y.0) y.1 × IsContent y.0) (ok_is (File l.0.0, l.0.1) x l.2)
    (Takes-then bytes (2 ∷ []) b.0.1 (long_string l.0.0) l.0.1 (subst (λ s. Takes bytes (s ∷ []) b.0.1) is t.0) u.0, u.1))
    (λ bad. let wrong = bad.1 in absurd cc)
    (chosen (eqb b.0.0 2) (text_at b.0.1 >>= file_from) (Err fault.Content) (Ok x) further.1))
    (chosen (eqb b.0.0 1) (target_at b.0.1 >>= link_from) (cond (eqb b.0.0 2) (text_at b.0.1 >>= file_from) (Err fault.Content)) (Ok x) more.1))
    (chosen (eqb b.0.0 0) (Ok (Gone, b.0.1)) (cond (eqb b.0.0 1) (target_at b.0.1 >>= link_from) (cond (eqb b.0.0 2) (text_at b.0.1 >>= file_from) (Err fault.Content))) (Ok x) b.2)

content_again : (c : Content) (rest : List ℕ) → IsContent c → content_at (content c ++ rest) ≡ Ok (c, rest)
unfolding content_at
content_again Gone rest is = refl
content_again (Link t) rest is = ap (λ (r : Result (List ℕ × List ℕ) SpellingFault). r >>= link_from) (target_field.again t rest is)
content_again (File f) rest is = ap (λ (r : Result (List ℕ × List ℕ) SpellingFault). r >>= file_from) (file_field.again f rest is)

content_field : IsField content_at content IsContent
content_field = record { takes = content_takes; again = content_again }

-- ---- entries

pub entry_field : IsField entry_at entry IsEntry
unfolding entry_at
entry_field = two version_at version IsVersion content_at content IsContent entry IsEntry (λ v c. record { version = v; content = c }) version_field content_field
    (record {
      first = λ x. x.version;
      second = λ x. x.content;
      whole = λ x. refl;
      spelled = λ a b. refl;
      fits = λ a b p q. record { version = p; content = q };
      first_fits = λ x r. r.version;
      second_fits = λ x r. r.content;
    })
