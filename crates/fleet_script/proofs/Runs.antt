-- How a run goes from line to line, and how its answers reach the writer.
use Rattle.std.proofs.Common.{if◌then◌else◌, ◌++◌, ◌+◌, ◌∷◌, ◌≡◌, ◌≤◌, ◌⊎◌}
use Rattle.fleet_script.proofs.WholeScripts.{prefix_of_prefix, run_grows}
use Rattle.fleet_script.proofs.Prelude.{[], AnswersFrom, AnswersLine, ap, append-nil, append_assoc, Appends, Appends-append, Appends-nothing, AppendsPrefix, AreAll, AreAll-some, arith, blank, Continues, EntryMap, Err, false, FirstIsHeld, held, Holds, inl, inr, is_err, is_ok, IsAnswered, IsPrefixFrom, IsPrefixWritten, IsValid, Keeps, length, lines_of, List, Ok, OnErr, OnOk, Option, PrefixFrom, refl, Result, Run, ScriptWorld, StaysKept, subst, sym, take, take-append-add, take_all, take_at, true, true≢false, ℕ, ◌∙◌}

-- one more line
run_more : (old : ScriptWorld) (lines : List (List ℕ)) (written : List ℕ) (mid : ScriptWorld) (line answer : List ℕ) (new : ScriptWorld)
    → Run old lines written mid → AnswersLine mid line answer new → Run old (lines ++ line ∷ []) (written ++ answer) new
run_more old [] written mid line answer new r s =
    let end : AnswersLine old line answer new = subst (λ v. AnswersLine v line answer new) r.1 s in
    (answer, [], new, ap (λ v. v ++ answer) r.0 ∙ sym (append-nil answer), end, (refl, refl))
run_more old (first ∷ lines) written mid line answer new r s = (
  r.0,
  r.1 ++ answer,
  r.2,
  ap (λ v. v ++ answer) r.3 ∙ append_assoc r.0 r.1 answer,
  r.4,
  run_more r.2 lines r.1 mid line answer new r.5 s,
)

-- a run of some lines goes on from where a run of others ended
run_append : (old : ScriptWorld) (lines : List (List ℕ)) (written : List ℕ) (mid : ScriptWorld) (others : List (List ℕ)) (later : List ℕ) (new : ScriptWorld)
    → Run old lines written mid → Run mid others later new → Run old (lines ++ others) (written ++ later) new
run_append old [] written mid others later new r s =
    subst (λ v. Run old others (v ++ later) new) (sym r.0) (subst (λ w. Run w others later new) r.1 s)
run_append old (first ∷ lines) written mid others later new r s = (
  r.0,
  r.1 ++ later,
  r.2,
  ap (λ v. v ++ later) r.3 ∙ append_assoc r.0 r.1 later,
  r.4,
  run_append r.2 lines r.1 mid others later new r.5 s,
)

-- what is true between two lines of a script, that begins in the first world: some answers are written, and what the first
-- node held then is kept; other answers are pending
pub record Progress (first : ScriptWorld) (script rest : List ℕ) (keeps : Keeps) (old now : Option (List ℕ)) (pending : List ℕ) (Kept : EntryMap → Type 0) : Type 0 where
  pub done : List (List ℕ)
  pub written : List ℕ
  pub mid : ScriptWorld
  pub more : List (List ℕ)
  pub world : ScriptWorld
  pub lines : lines_of script ≡ done ++ (more ++ lines_of rest)
  pub before : Run first done written mid
  pub later : Run mid more pending world
  pub holds : Holds keeps world
  pub valid : IsValid mid
  pub appended : Appends old now written
  pub kept : Kept (held mid 0)

-- the same, whatever the first world is
abbrev pub Progresses : (script rest : List ℕ) (shell keeps : Keeps) (old now : Option (List ℕ)) (pending : List ℕ) (Begun Kept : EntryMap → Type 0) → Type 0
Progresses script rest shell keeps old now pending Begun Kept = (first : ScriptWorld) → Holds shell first → Begun (held first 0) → Progress first script rest keeps old now pending Kept

pub begins : (script pending : List ℕ) (keeps : Keeps) (a : Option (List ℕ)) (Kept : EntryMap → Type 0) → pending ≡ [] → Progresses script script keeps keeps a a pending Kept Kept
begins script pending keeps a Kept nothing first holds kept = subst (λ v. Progress first script script keeps a a v Kept) (sym nothing) (record {
  done = [];
  written = [];
  mid = first;
  more = [];
  world = first;
  lines = refl;
  before = (refl, refl);
  later = (refl, refl);
  holds = holds;
  valid = holds.valid;
  appended = Appends-nothing a;
  kept = kept;
})

module _ (first : ScriptWorld) (script rest : List ℕ) (keeps : Keeps) (old now : Option (List ℕ)) (Kept : EntryMap → Type 0) where
  pub moved : (after : Option (List ℕ)) (pending more : List ℕ) (Still : EntryMap → Type 0) → now ≡ after → pending ≡ more → Kept ≡ Still → Progress first script rest keeps old now pending Kept → Progress first script rest keeps old after more Still
  moved after pending more Still e is same p = subst (λ v. Progress first script rest keeps old v more Still) e (subst (λ v. Progress first script rest keeps old now v Still) is (subst (λ K. Progress first script rest keeps old now pending K) same p))

  pub line_answered : (line later answer pending more : List ℕ) (now_keeps : Keeps)
      → lines_of rest ≡ line ∷ lines_of later
      → Continues keeps now_keeps (λ a b. AnswersLine a line answer b)
      → more ≡ pending ++ answer
      → Progress first script rest keeps old now pending Kept → Progress first script later now_keeps old now more Kept
  line_answered line later answer pending more now_keeps cut step is p =
      let next = step p.world p.holds in
      record {
        done = p.done;
        written = p.written;
        mid = p.mid;
        more = p.more ++ line ∷ [];
        world = next.0;
        lines = p.lines ∙ ap (λ v. p.done ++ (p.more ++ v)) cut ∙ ap (λ v. p.done ++ v) (sym (append_assoc p.more (line ∷ []) (lines_of later)));
        before = p.before;
        later = subst (λ v. Run p.mid (p.more ++ line ∷ []) v next.0) (sym is) (run_more p.mid p.more pending p.world line answer next.0 p.later next.2);
        holds = next.1;
        valid = p.valid;
        appended = p.appended;
        kept = p.kept;
      }

  module _ (pending : List ℕ) (p : Progress first script rest keeps old now pending Kept) where
    -- what the first node holds is kept
    pub kept_next : (Next : EntryMap → Type 0) → FirstIsHeld keeps Kept Next → Next (held p.world 0)
    kept_next Next first_is = first_is p.world p.holds (held p.mid 0) p.kept (run_grows p.more p.mid pending p.world p.valid p.later 0)

    -- all pending answers are written
    pub flushed : (after : Option (List ℕ)) (Next : EntryMap → Type 0) → Appends now after pending → FirstIsHeld keeps Kept Next → Progress first script rest keeps old after [] Next
    flushed after Next more first_is = record {
      done = p.done ++ p.more;
      written = p.written ++ pending;
      mid = p.world;
      more = [];
      world = p.world;
      lines = p.lines ∙ sym (append_assoc p.done p.more (lines_of rest));
      before = run_append first p.done p.written p.mid p.more pending p.world p.before p.later;
      later = (refl, refl);
      holds = p.holds;
      valid = p.holds.valid;
      appended = Appends-append old now after p.written pending p.appended more;
      kept = kept_next Next first_is;
    }

    -- a prefix of the pending answers is written
    pub prefix_written : (after : Option (List ℕ)) (Next : EntryMap → Type 0) → AppendsPrefix now after pending → Next (held p.world 0) → PrefixFrom first script old after Next
    prefix_written after Next prefix kept =
        let all : lines_of script ≡ (p.done ++ p.more) ++ lines_of rest = p.lines ∙ sym (append_assoc p.done p.more (lines_of rest)) in
        let lines : p.done ++ p.more ≡ take (length (p.done ++ p.more)) (lines_of script) = sym (ap (take (length (p.done ++ p.more))) all ∙ take_at (p.done ++ p.more) (lines_of rest) (length (p.done ++ p.more)) refl) in
        record {
          count = length (p.done ++ p.more);
          answers = p.written ++ pending;
          last = p.world;
          size = length p.written + prefix.0;
          run = subst (λ v. Run first v (p.written ++ pending) p.world) lines (run_append first p.done p.written p.mid p.more pending p.world p.before p.later);
          written = subst (λ v. Appends old after v) (sym (take-append-add p.written pending prefix.0)) (Appends-append old now after p.written (take prefix.0 pending) p.appended prefix.1);
          kept = kept;
        }

    -- no more is written
    pub nothing_more : (after : Option (List ℕ)) (Next : EntryMap → Type 0) → now ≡ after → Next (held p.mid 0) → PrefixFrom first script old after Next
    nothing_more after Next same kept =
        let lines : p.done ≡ take (length p.done) (lines_of script) = sym (ap (take (length p.done)) p.lines ∙ take_at p.done (p.more ++ lines_of rest) (length p.done) refl) in
        record {
          count = length p.done;
          answers = p.written;
          last = p.mid;
          size = length p.written;
          run = subst (λ v. Run first v p.written p.mid) lines p.before;
          written = subst (λ v. Appends old after v) (sym (take_all (length p.written) p.written (omega arith))) (subst (λ v. Appends old v p.written) same p.appended);
          kept = kept;
        }

    -- all lines are answered, and all answers are written
    pub answered : (after : Option (List ℕ)) (Next : EntryMap → Type 0) → lines_of rest ≡ [] → Appends now after pending → FirstIsHeld keeps Kept Next → AnswersFrom first script old after Next
    answered after Next end more first_is =
        let lines : p.done ++ p.more ≡ lines_of script = sym (p.lines ∙ ap (λ v. p.done ++ (p.more ++ v)) end ∙ ap (λ v. p.done ++ v) (append-nil p.more)) in
        record {
          answers = p.written ++ pending;
          last = p.world;
          run = subst (λ v. Run first v (p.written ++ pending) p.world) lines (run_append first p.done p.written p.mid p.more pending p.world p.before p.later);
          written = Appends-append old now after p.written pending p.appended more;
          kept = kept_next Next first_is;
        }

-- before the first line nothing is written
pub nothing_written : (first : ScriptWorld) (script : List ℕ) (a : Option (List ℕ)) (Kept : EntryMap → Type 0) → Kept (held first 0) → PrefixFrom first script a a Kept
nothing_written first script a Kept kept = record { count = 0; answers = []; last = first; size = 0; run = no_line (lines_of script); written = Appends-nothing a; kept = kept }
  where
    no_line : (lines : List (List ℕ)) → Run first (take 0 lines) [] first
    no_line [] = (refl, refl)
    no_line (line ∷ lines) = (refl, refl)

-- the prefix of a part is one of the whole
pub longer : (old new : Option (List ℕ)) (xs ys : List ℕ) → AppendsPrefix old new xs → AppendsPrefix old new (xs ++ ys)
longer old new xs ys p = let more = prefix_of_prefix p.0 xs ys in (more.0, subst (λ v. Appends old new v) more.1 p.1)

-- what is true of every fault
pub whatever : {T E : Type 0} (P : Type 0) (r : Result T E) → P → OnErr r P
whatever P (Ok x) p = tt
whatever P (Err e) p = p

pub extended : {T E : Type 0} (r : Result T E) (items xs ys : List ℕ) → is_err r ≡ false → items ≡ (if is_ok r then xs ++ ys else xs) → items ≡ xs ++ ys
extended (Ok x) items xs ys e is = is
extended (Err x) items xs ys e is = absurd (true≢false e)

pub not_extended : {T E : Type 0} (r : Result T E) (items xs ys : List ℕ) → is_err r ≡ true → items ≡ (if is_ok r then xs ++ ys else xs) → items ≡ xs
not_extended (Ok x) items xs ys e is = absurd (true≢false (sym e))
not_extended (Err x) items xs ys e is = is

-- A run that stops.

module _ {S : Type 0} (contents : S → Option (List ℕ)) (first : ScriptWorld) (script rest : List ℕ) (keeps : Keeps) (old : Option (List ℕ)) (sink : S) (Held : EntryMap → Type 0) (pending : List ℕ)
    (p : Progress first script rest keeps old (contents sink) pending Held) where
  -- memory ran out: the pending answers are written where nothing is to be kept, or nothing is
  pub gave_up : (after : S) (Kept : EntryMap → Type 0) → ((s : EntryMap) → Held s → Kept s) → AppendsPrefix (contents sink) (contents after) pending → (after ≡ sink) ⊎ ((s : EntryMap) → Kept s)
      → PrefixFrom first script old (contents after) Kept
  gave_up after Kept lasts prefix (inl same) = nothing_more first script rest keeps old (contents sink) Held pending p (contents after) Kept (sym (ap contents same)) (lasts (held p.mid 0) p.kept)
  gave_up after Kept lasts prefix (inr all) = prefix_written first script rest keeps old (contents sink) Held pending p (contents after) Kept prefix (all (held p.world 0))

  -- a write failed, or what the first node holds wasn't kept
  pub stopped : (after : S) (Before Next Kept : EntryMap → Type 0) → ((s : EntryMap) → Held s → Before s) → StaysKept Before Kept → ((s : EntryMap) → Next s → Kept s)
      → AppendsPrefix (contents sink) (contents after) pending → (after ≡ sink) ⊎ FirstIsHeld keeps Held Next → PrefixFrom first script old (contents after) Kept
  stopped after Before Next Kept lasts stays lasts_next prefix (inl same) =
      nothing_more first script rest keeps old (contents sink) Held pending p (contents after) Kept (sym (ap contents same)) (stays (held p.mid 0) (lasts (held p.mid 0) p.kept))
  stopped after Before Next Kept lasts stays lasts_next prefix (inr first_is) =
      prefix_written first script rest keeps old (contents sink) Held pending p (contents after) Kept prefix (lasts_next (held p.world 0) (kept_next first script rest keeps old (contents sink) Held pending p Next first_is))

-- what follows where a call ended well, or badly
pub both_ok : {T E : Type 0} (r : Result T E) (P Q R : Type 0) → OnOk r P → OnOk r Q → (P → Q → R) → OnOk r R
both_ok (Ok x) P Q R p q f = f p q
both_ok (Err e) P Q R p q f = tt

pub on_err : {T E : Type 0} (r : Result T E) (P R : Type 0) → OnErr r P → (P → R) → OnErr r R
on_err (Ok x) P R p f = tt
on_err (Err e) P R p f = f p

pub on_ok : {T E : Type 0} (r : Result T E) (P R : Type 0) → OnOk r P → (P → R) → OnOk r R
on_ok (Ok x) P R p f = f p
on_ok (Err e) P R p f = tt

pub or_then : {A B C : Type 0} → A ⊎ B → (B → C) → A ⊎ C
or_then (inl a) f = inl a
or_then (inr b) f = inr (f b)

-- What was left to read is answered, or a prefix of the answers is written.

module _ (left old new : Option (List ℕ)) (script : List ℕ) (Kept : EntryMap → Type 0) (read : AreAll left script) where
  pub is_answered : (limit : ℕ) → length script ≤ limit → AnswersFrom blank script old new Kept → IsAnswered limit left old new
  is_answered limit within from = record { script = script; answers = from.answers; read = read; within = within; are_answers = (from.last, from.run); written = from.written }

  pub is_prefix : PrefixFrom blank script old new Kept → IsPrefixWritten left old new
  is_prefix from = record {
    script = script;
    prefix = take from.size from.answers;
    read = read;
    is_prefix = (from.count, from.size, from.answers, from.last, from.run, refl);
    written = from.written;
  }

-- before the script is read nothing is written
pub nothing_from : (first : ScriptWorld) (left a : Option (List ℕ)) (Kept : EntryMap → Type 0) → Kept (held first 0) → IsPrefixFrom first left a a Kept
nothing_from first left a Kept kept = let all = AreAll-some left in record { script = all.0; read = all.1; prefix = nothing_written first all.0 a Kept kept }
