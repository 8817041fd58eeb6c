-- What a commit keeps of a script's node.
use Rattle.std.proofs.Common.{◌≡◌, ◌⊎◌, ◌∷◌, [], ap, Err, inl, inr, List, Ok, OnOk, Option, refl, Result, subst, sym, take, ◌∙◌, ℕ}
use Rattle.edit_sums.specs.declared.entries.Edit.{Edit}
use Rattle.script_pipes.specs.KnownBytesLaws.{Appends-nothing, AreAll-some}
use Rattle.script_words.specs.Lines.{lines_of}
use Rattle.script_worlds.specs.Worlds.{held, ScriptWorld}
use Rattle.fleet_script.specs.Ends.{IsPrefixFrom}
use Rattle.fleet_script.specs.Scripts.{Run}
use Rattle.edit_sums.specs.Sums.{EntryMap, IsStoreBelow, join, sum_of}
use Rattle.edit_sums.specs.SumLaws.{join-least, join-left, join-nothing, join-right, store_below_antisym, store_below_refl, store_below_trans}
use Rattle.edit_log.specs.declared.logs.LogRow.{LogRow}
use Rattle.edit_log.specs.Logs.{edits_in, LeavesJust}
use Rattle.durable_node.specs.Nodes.{Node}
use Rattle.file_scripts.specs.Kept.{IsFoundIn, IsHeldIn}

-- nothing is added by less
pub join_above : (s t : EntryMap) → IsStoreBelow s t → join s t ≡ t
join_above s t below = store_below_antisym (join s t) t (join-least s t t below (store_below_refl t)) (join-right s t)

-- what follows of a call that ended well, of what it says of honest files
pub where_ok : {T E : Type 0} (r : Result T E) (H P Q R : Type 0) → (H → OnOk r P) → (H → OnOk r Q) → ((H → P) → (H → Q) → R) → OnOk r R
where_ok (Ok x) H P Q R p q f = f p q
where_ok (Err e) H P Q R p q f = tt

-- before the script is read nothing is written
pub nothing_from : (first : ScriptWorld) (left a : Option (List ℕ)) (Kept : EntryMap → Type 0) → Kept (held first 0) → IsPrefixFrom first left a a Kept
nothing_from first left a Kept kept =
    let all = AreAll-some left in
    record { script = all.0; read = all.1; prefix = record { count = 0; answers = []; last = first; size = 0; run = no_line (lines_of all.0); written = Appends-nothing a; kept = kept } }
  where
    no_line : (lines : List (List ℕ)) → Run first (take 0 lines) [] first
    no_line [] = (refl, refl)
    no_line (line ∷ lines) = (refl, refl)

module _ {L : Type 0} (is_honest : L → Type 0) (held_in : L → List LogRow) (may_leave : L → List LogRow → Type 0) where
  -- what an open gives is held
  pub opened : (node : Node L) (s : EntryMap) → node.replica.store ≡ s → node.unsaved ≡ []
      → (is_honest node.log → node.replica.store ≡ join (sum_of (edits_in (held_in node.log))) (sum_of node.unsaved)) → (is_honest node.log → LeavesJust (held_in node.log) (may_leave node.log))
      → IsHeldIn is_honest held_in may_leave node s
  opened node s store none sums lasts = record {
    store = store;
    sum = λ honest.
        sym (sums honest ∙ ap (λ (es : List Edit). join (sum_of (edits_in (held_in node.log))) (sum_of es)) none ∙ join-nothing (sum_of (edits_in (held_in node.log)))) ∙ store;
    lasts = lasts;
  }

module _ {L : Type 0} (is_honest : L → Type 0) (held_in : L → List LogRow) (may_leave : L → List LogRow → Type 0) (old new : Node L) (store : EntryMap) where
  -- what was joined and committed is held
  pub held_next : new.replica.store ≡ join old.replica.store store → (is_honest new.log → sum_of (edits_in (held_in new.log)) ≡ new.replica.store) → (is_honest new.log → LeavesJust (held_in new.log) (may_leave new.log))
      → (s : EntryMap) → IsHeldIn is_honest held_in may_leave old s → IsStoreBelow s store → IsHeldIn is_honest held_in may_leave new store
  held_next joined sums lasts s is below =
      let whole : new.replica.store ≡ store = joined ∙ ap (λ (t : EntryMap). join t store) is.store ∙ join_above s store below in
      record { store = whole; sum = λ honest. sums honest ∙ whole; lasts = lasts }

  -- what would have been found is found
  pub found_next : new.replica.store ≡ join old.replica.store store → (is_honest new.log → is_honest old.log)
      → (is_honest new.log → (left : List LogRow) → may_leave new.log left → may_leave old.log left ⊎ (sum_of (edits_in left) ≡ new.replica.store))
      → (s : EntryMap) → IsFoundIn is_honest may_leave old s → IsFoundIn is_honest may_leave new s
  found_next joined was left s is =
      let more : IsStoreBelow s new.replica.store = subst (λ (t : EntryMap). IsStoreBelow s t) (sym joined) (store_below_trans s old.replica.store (join old.replica.store store) is.store (join-left old.replica.store store)) in
      record {
        store = more;
        left = λ honest rows may. elim (left honest rows may) [
          | inl before ↦ is.left (was honest) rows before
          | inr whole ↦ subst (λ (t : EntryMap). IsStoreBelow s t) (sym whole) more
        ];
      }
