-- Laws of whole scripts: one list of answers, of which a fault leaves a prefix; valid worlds; and counters that are
-- never spent.
use Rattle.std.proofs.Common.{◌++◌, ◌+◌, ◌==◌, ◌∷◌, ◌≡◌, ◌≤◌, ◌⊎◌}
use Rattle.script_words.specs.Lines.{lines_of}
use Rattle.fleet_script.proofs.Prelude.{[], Answers, AnswersCommand, AnswersLine, ap, append_assoc, Arguments, arith, BeginsWithVerb, begun, blank, Bool, Command, command_of, cond, count_by-le-length, counted, CountersAreLines, CountsOn, Does, Edit, Err, error_line, false, held, high_of, high_among-edits_of, counter_among, edits_of, inl, inr, is_passed_over, is_spent, IsAmong, IsHonest, IsPutUpTo, IsStoreBelow, IsValid, length, length-slice_split, length-take, LineRefusal, lines_of_parts, LineTooLong, List, MatchBool, MatchResult, nat_lt, ne_eqb, NodesHaveTheNumbers, NoLineIsRefusedForVersions, Ok, others_are_refused, Outcome, outcome_text, PrefixesAreOfTheWhole, put_blank, puts, puts_begun, refl, Refuses, Result, Run, Says, ScriptWorld, slice_split, state, StaysHonest, store_below_refl, subst, suc, sum_of-least, sym, take, took, true, true≢false, UnknownCommand, valid_begun, valid_blank, VersionsAreNeverSpent, VersionsSpent, words_of, zero, ℕ, ◌∙◌}
use Rattle.fleet_script.proofs.StepKinds.{does, Follows, HasCounters, HaveNumbers, refused_once, stays}

-- a line has one answer and leaves one world, which follows
record IsLine {X : Type 0} (old : ScriptWorld) (A : X → ScriptWorld → Type 0) : Type 0 where
  one : (a b : X) (x y : ScriptWorld) → A a x → A b y → (a ≡ b) × (x ≡ y)
  follows : (answer : X) (new : ScriptWorld) → A answer new → Follows old new

module _ (old : ScriptWorld) where
  says : (words : List ℕ) → IsLine old (λ answer new. Says words old answer new)
  says words = record {
    one = λ a b x y p q. (p.answer_is ∙ sym q.answer_is, p.world_is ∙ sym q.world_is);
    follows = λ answer new s. stays old new s.world_is;
  }

  asked : (r : Result Command LineRefusal) → IsLine {X = Outcome} old (λ outcome new. MatchResult r (λ command. Does old command outcome new) (λ refusal. Refuses old refusal outcome new))
  asked (Ok command) = let step = does old command in record { one = step.one; follows = step.follows }
  asked (Err refusal) = record { one = refused_once old refusal; follows = λ outcome new r. stays old new r.world_is }

  answered : (line : List ℕ) → IsLine old (λ answer new. AnswersCommand old line answer new)
  answered line =
      let step = asked (command_of line) in
      record {
        one = λ a b x y p q. (let same = step.one p.0 q.0 x y p.2 q.2 in (p.1 ∙ ap outcome_text same.0 ∙ sym q.1, same.1));
        follows = λ answer new p. step.follows p.0 new p.2;
      }

  either : (t : Bool) (P Q : List ℕ → ScriptWorld → Type 0) → IsLine old P → IsLine old Q → IsLine old (λ answer new. MatchBool t (P answer new) (Q answer new))
  either true P Q p q = p
  either false P Q p q = q

  line_is : (line : List ℕ) → IsLine old (λ answer new. AnswersLine old line answer new)
  line_is line =
      either (nat_lt 300000 (length line)) (λ answer new. Says (error_line LineTooLong) old answer new)
      (λ answer new. MatchBool (is_passed_over line) (Says [] old answer new) (AnswersCommand old line answer new))
      (says (error_line LineTooLong))
      (either (is_passed_over line) (λ answer new. Says [] old answer new) (λ answer new. AnswersCommand old line answer new) (says []) (answered line))

run_same : (old : ScriptWorld) (lines : List (List ℕ)) (a b : List ℕ) (x y : ScriptWorld) → Run old lines a x → Run old lines b y → (a ≡ b) × (x ≡ y)
run_same old [] a b x y p q = (p.0 ∙ sym q.0, p.1 ∙ sym q.1)
run_same old (line ∷ lines) a b x y p q =
    let now = (line_is old line).one p.0 q.0 p.2 q.2 p.4 q.4 in
    let later = run_same p.2 lines p.1 q.1 x y p.5 (subst (λ w. Run w lines q.1 y) (sym now.1) q.5) in
    (p.3 ∙ ap (λ v. v ++ p.1) now.0 ∙ ap (λ v. q.0 ++ v) later.0 ∙ sym q.3, later.1)

pub one : (script first second : List ℕ) → Answers script first → Answers script second → first ≡ second
one script first second p q = (run_same blank (lines_of script) first second p.0 q.0 p.1 q.1).0

-- a run of all lines begins with the run of the first of them
prefix_of_run : (k : ℕ) (lines : List (List ℕ)) (old : ScriptWorld) (a b : List ℕ) (x y : ScriptWorld) → Run old (take k lines) a x → Run old lines b y → (rest : List ℕ) × (b ≡ a ++ rest)
prefix_of_run zero [] old a b x y p q = (b, ap (λ v. v ++ b) (sym p.0))
prefix_of_run zero (line ∷ lines) old a b x y p q = (b, ap (λ v. v ++ b) (sym p.0))
prefix_of_run (suc k) [] old a b x y p q = (b, ap (λ v. v ++ b) (sym p.0))
prefix_of_run (suc k) (line ∷ lines) old a b x y p q =
    let now = (line_is old line).one p.0 q.0 p.2 q.2 p.4 q.4 in
    let later = prefix_of_run k lines p.2 p.1 q.1 x y p.5 (subst (λ w. Run w lines q.1 y) (sym now.1) q.5) in
    (later.0, q.3 ∙ ap (λ v. v ++ q.1) (sym now.0) ∙ ap (λ v. p.0 ++ v) later.1 ∙ sym (append_assoc p.0 p.1 later.0) ∙ ap (λ v. v ++ later.0) (sym p.3))

-- a prefix of a prefix is a prefix
pub prefix_of_prefix : (n : ℕ) (a rest : List ℕ) → (m : ℕ) × (take n a ≡ take m (a ++ rest))
prefix_of_prefix zero [] rest = (0, refl)
prefix_of_prefix zero (x ∷ a) rest = (0, refl)
prefix_of_prefix (suc n) [] rest = (0, refl)
prefix_of_prefix (suc n) (x ∷ a) rest = let later = prefix_of_prefix n a rest in (suc later.0, ap (λ v. x ∷ v) later.1)

pub prefixes_are_of_the_whole : PrefixesAreOfTheWhole
prefixes_are_of_the_whole script written answers prefix whole =
    let goes_on = prefix_of_run prefix.0 (lines_of script) blank prefix.2 answers prefix.3 whole.0 prefix.4 whole.1 in
    let cut = prefix_of_prefix prefix.1 prefix.2 goes_on.0 in
    (cut.0, prefix.5 ∙ cut.1 ∙ ap (take cut.0) (sym goes_on.1))

pub run_valid : (lines : List (List ℕ)) (old : ScriptWorld) (written : List ℕ) (new : ScriptWorld) → IsValid old → Run old lines written new → IsValid new
run_valid [] old written new valid r = subst (λ (w : ScriptWorld). IsValid w) (sym r.1) valid
run_valid (line ∷ lines) old written new valid r = run_valid lines r.2 r.1 new (((line_is old line).follows r.0 r.2 r.4).valid valid) r.5

run_honest : (lines : List (List ℕ)) (old : ScriptWorld) (written : List ℕ) (new : ScriptWorld) → IsValid old → IsHonest (puts old) → Run old lines written new → IsHonest (puts new)
run_honest [] old written new valid honest r = subst (λ (w : ScriptWorld). IsHonest (puts w)) (sym r.1) honest
run_honest (line ∷ lines) old written new valid honest r =
    let step = (line_is old line).follows r.0 r.2 r.4 in
    run_honest lines r.2 r.1 new (step.valid valid) (step.honest valid honest) r.5

run_takes : (lines : List (List ℕ)) (old : ScriptWorld) (written : List ℕ) (new : ScriptWorld) → IsValid old → Run old lines written new → (k : ℕ) (e : Edit) → IsAmong e (took (state old) k) → IsAmong e (took (state new) k)
run_takes [] old written new valid r k e a = subst (λ (w : ScriptWorld). IsAmong e (took (state w) k)) (sym r.1) a
run_takes (line ∷ lines) old written new valid r k e a =
    let step = (line_is old line).follows r.0 r.2 r.4 in
    run_takes lines r.2 r.1 new (step.valid valid) r.5 k e (step.grows valid k e a)

-- what a node holds grows
pub run_grows : (lines : List (List ℕ)) (old : ScriptWorld) (written : List ℕ) (new : ScriptWorld) → IsValid old → Run old lines written new → (k : ℕ) → IsStoreBelow (held old k) (held new k)
run_grows lines old written new valid r k =
    let whole = (sum_of-least (took (state new) k) (held new k)).0 (store_below_refl (held new k)) in
    (sum_of-least (took (state old) k) (held new k)).1 (λ e a. whole e (run_takes lines old written new valid r k e a))

run_counted : (lines : List (List ℕ)) (old : ScriptWorld) (written : List ℕ) (new : ScriptWorld) (n : ℕ) → IsValid old → IsPutUpTo n old → Run old lines written new → IsPutUpTo (n + length lines) new
run_counted [] old written new n valid up r e a = let most = subst (λ (w : ScriptWorld). IsPutUpTo n w) (sym r.1) up e a in omega arith
run_counted (line ∷ lines) old written new n valid up r e a =
    let step = (line_is old line).follows r.0 r.2 r.4 in
    let most = run_counted lines r.2 r.1 new (suc n) (step.valid valid) (step.counted n valid up) r.5 e a in
    omega arith

pub counters_are_lines : CountersAreLines
counters_are_lines lines written world r =
    counted (length lines) world (run_valid lines blank written world valid_blank r)
    (λ e a. let most = run_counted lines blank written world 0 valid_blank put_blank r e a in omega arith)

fewer_lines : (parts : List (List ℕ)) → length (lines_of_parts parts) ≤ length parts
fewer_lines [] = omega arith
fewer_lines (part ∷ []) = by (length part == 0)
  where
    by : (b : Bool) → length (cond b [] (part ∷ [])) ≤ 1
    by true = omega arith
    by false = omega arith
fewer_lines (part ∷ next ∷ parts) = let later = fewer_lines (next ∷ parts) in omega arith

-- a script has at most one line more than it has bytes
pub lines_are_few : (script : List ℕ) → length (lines_of script) ≤ length script + 1
unfolding lines_of
lines_are_few script =
    let fewer = fewer_lines (slice_split (λ b. b == 10) script) in
    omega (arith, length-slice_split (λ b. b == 10) script, count_by-le-length (λ b. b == 10) script)

pub versions_are_never_spent : VersionsAreNeverSpent
versions_are_never_spent script k written world command new short r spent =
    let lines = take k (lines_of script) in
    let few : length lines ≤ 16777217 = omega (arith, length-take k (lines_of script), lines_are_few script) in
    let count = counters_are_lines lines written world r in
    let free : HasCounters world = λ j. ne_eqb (high_of (held world j)) 18446744073709551615 (λ same. let most = count.stores j in omega arith) in
    true≢false ((does world command).unspent free (Err VersionsSpent) new spent)

pub no_line_is_refused_for_versions : NoLineIsRefusedForVersions
no_line_is_refused_for_versions script k written world line answer new short r answered same = by (command_of line) refl answered.2
  where
    by : (c : Result Command LineRefusal) → command_of line ≡ c → MatchResult c (λ command. Does world command answered.0 new) (λ refusal. Refuses world refusal answered.0 new) → ⊥
    by (Ok command) is d = versions_are_never_spent script k written world command new short r (subst (λ (o : Outcome). Does world command o new) same d)
    by (Err refusal) is d = other (others_are_refused line refusal is)
      where
        spent : is_spent (Err refusal) ≡ true
        spent = sym (ap is_spent d.outcome_is) ∙ ap is_spent same

        other : (BeginsWithVerb (words_of line) × (refusal ≡ Arguments)) ⊎ ((BeginsWithVerb (words_of line) → ⊥) × (refusal ≡ UnknownCommand)) → ⊥
        other (inl why) = true≢false (sym spent ∙ ap (λ (f : LineRefusal). is_spent (Err f)) why.1)
        other (inr why) = true≢false (sym spent ∙ ap (λ (f : LineRefusal). is_spent (Err f)) why.1)

pub blank_stays_honest : (lines : List (List ℕ)) (written : List ℕ) (world : ScriptWorld) → Run blank lines written world → IsHonest (puts world)
blank_stays_honest lines written world r = run_honest lines blank written world valid_blank (λ e f a b same. absurd a) r

run_numbers : (lines : List (List ℕ)) (old : ScriptWorld) (written : List ℕ) (new : ScriptWorld) → IsValid old → HaveNumbers old → Run old lines written new → HaveNumbers new
run_numbers [] old written new valid have r = subst (λ (w : ScriptWorld). HaveNumbers w) (sym r.1) have
run_numbers (line ∷ lines) old written new valid have r =
    let step = (line_is old line).follows r.0 r.2 r.4 in
    run_numbers lines r.2 r.1 new (step.valid valid) (step.numbers valid have) r.5

pub nodes_have_the_numbers : NodesHaveTheNumbers
nodes_have_the_numbers lines written world r = run_numbers lines blank written world valid_blank (λ writer. refl) r

pub stays_honest : StaysHonest
stays_honest name writer s lines written world r honest =
    run_honest lines (begun name writer s) written world (valid_begun name writer s) (subst (λ (es : List Edit). IsHonest es) (sym (puts_begun name writer s)) honest) r

pub counts_on : CountsOn
counts_on name writer s lines written world r =
    counted (high_of s + length lines) world (run_valid lines (begun name writer s) written world (valid_begun name writer s) r)
    (λ e a. run_counted lines (begun name writer s) written world (high_of s) (valid_begun name writer s) begun_up r e a)
  where
    begun_up : IsPutUpTo (high_of s) (begun name writer s)
    begun_up e a =
        let most = counter_among e (edits_of s) (subst (λ (es : List Edit). IsAmong e es) (puts_begun name writer s) a) in
        omega (arith, high_among-edits_of s)
