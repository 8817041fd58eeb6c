-- What frames and an open one say.
use Rattle.std.proofs.Common.{◌≡◌, ◌≤◌, ◌+◌, ◌++◌, ◌∷◌, ℕ, suc, true, false, [], List, length, map, Option, None, refl, sym, ap, subst, ◌∙◌, append_assoc, arith}
use Rattle.std.specs.FinMap as finmap
use Rattle.std.proofs.lemmas.List.{append-nil, map-append}
use Rattle.std.proofs.lemmas.Grind.{flat_map-append, fold-append}
use Rattle.edit_sums.specs.Sums.{edit_of, EntryMap, join, sum_of, with_edit}
use Rattle.edit_sums.specs.SumLaws.{join_assoc, join-nothing, sum_of-append, sum_of-edits_of, with_edit-join}
use Rattle.edit_sums.specs.declared.entries.Edit.{Edit}
use Rattle.edit_sums.specs.Entries.{Entry}
use Rattle.load_places.specs.Places.{PlaceParts}
use Rattle.exchange_session.specs.Joined.{joined}
use Rattle.exchange_session.specs.declared.messages.{RangeAsk.{RangeAsk}, RangePrint.{RangePrint}}
use Rattle.exchange_bytes.specs.Cutting.{all_asks, all_pieces, all_prints, AreBefore, AreFrames, asks_in, entry_weight, frame_limit, IsHeavier, IsOpen, piece_weight, pieces_in, prints_in, SaysAlso, total, Weighs}
use Rattle.exchange_bytes.specs.declared.{cutting.Packing.{Packing}, frames.{Frame.{Frame}, Hello.{Hello}}}

-- ---- joins

pub join_nothing : (s : EntryMap) → join s finmap.empty ≡ s
join_nothing s = join-nothing s

joined_append : (s : EntryMap) (xs ys : List EntryMap) → joined s (xs ++ ys) ≡ joined (joined s xs) ys
joined_append s xs ys = fold-append join s xs ys

joined_last : (s : EntryMap) (xs : List EntryMap) (x : EntryMap) → joined s (xs ++ x ∷ []) ≡ join (joined s xs) x
joined_last s xs x = joined_append s xs (x ∷ [])

-- ---- nothing, and one thing after another

pub says_same : (p : Packing) → SaysAlso p p [] [] finmap.empty
says_same p = record {
  prints = sym (append-nil (prints_in p));
  asks = sym (append-nil (asks_in p));
  pieces = λ s. sym (join_nothing (joined s (pieces_in p)));
  linked = λ first is. is;
}

pub says_then : (a b c : Packing) (ps qs : List RangePrint) (xs ys : List RangeAsk) (s t : EntryMap) → SaysAlso a b ps xs s → SaysAlso b c qs ys t → SaysAlso a c (ps ++ qs) (xs ++ ys) (join s t)
says_then a b c ps qs xs ys s t one two = record {
  prints = two.prints ∙ ap (λ (l : List RangePrint). l ++ qs) one.prints ∙ append_assoc (prints_in a) ps qs;
  asks = two.asks ∙ ap (λ (l : List RangeAsk). l ++ ys) one.asks ∙ append_assoc (asks_in a) xs ys;
  pieces = λ u. two.pieces u ∙ ap (λ (m : EntryMap). join m t) (one.pieces u) ∙ join_assoc (joined u (pieces_in a)) s t;
  linked = λ first is. two.linked first (one.linked first is);
}

pub says_in : (a b c : Packing) (ps qs rs : List RangePrint) (xs ys zs : List RangeAsk) (s t u : EntryMap) → SaysAlso a b ps xs s → SaysAlso b c qs ys t → ps ++ qs ≡ rs → xs ++ ys ≡ zs → join s t ≡ u → SaysAlso a c rs zs u
says_in a b c ps qs rs xs ys zs s t u one two p x e =
    let both = says_then a b c ps qs xs ys s t one two in
    record {
      prints = both.prints ∙ ap (λ (l : List RangePrint). prints_in a ++ l) p;
      asks = both.asks ∙ ap (λ (l : List RangeAsk). asks_in a ++ l) x;
      pieces = λ m. both.pieces m ∙ ap (join (joined m (pieces_in a))) e;
      linked = both.linked;
    }

-- ---- a frame behind others

before_more : (first : Option Hello) (fs : List Frame) (f : Frame) → AreBefore first fs f.hello → f.more ≡ true → AreBefore first (fs ++ f ∷ []) None
before_more first [] f before more = (before, (more, refl))
before_more first (g ∷ fs) f before more = (before.0, (before.1.0, before_more None fs f before.1.1 more))

-- the frame of what was open
pub record IsFrameOf (p : Packing) (f : Frame) : Type 0 where
  pub hello : f.hello ≡ p.hello
  pub prints : f.prints.items ≡ p.prints.items
  pub asks : f.asks.items ≡ p.asks.items
  pub piece : f.piece ≡ p.store

prints_with : (fs : List Frame) (f : Frame) → all_prints (fs ++ f ∷ []) ≡ all_prints fs ++ f.prints.items
prints_with fs f = flat_map-append (λ (g : Frame). g.prints.items) fs (f ∷ []) ∙ ap (λ (l : List RangePrint). all_prints fs ++ l) (append-nil f.prints.items)

asks_with : (fs : List Frame) (f : Frame) → all_asks (fs ++ f ∷ []) ≡ all_asks fs ++ f.asks.items
asks_with fs f = flat_map-append (λ (g : Frame). g.asks.items) fs (f ∷ []) ∙ ap (λ (l : List RangeAsk). all_asks fs ++ l) (append-nil f.asks.items)

pieces_with : (fs : List Frame) (f : Frame) → all_pieces (fs ++ f ∷ []) ≡ all_pieces fs ++ f.piece ∷ []
pieces_with fs f = map-append (λ (g : Frame). g.piece) fs (f ∷ [])

module _ (p : Packing) (f : Frame) (is : IsFrameOf p f) where
  pub framed_prints : all_prints (p.frames.items ++ f ∷ []) ≡ prints_in p
  framed_prints = prints_with p.frames.items f ∙ ap (λ (l : List RangePrint). all_prints p.frames.items ++ l) is.prints

  pub framed_asks : all_asks (p.frames.items ++ f ∷ []) ≡ asks_in p
  framed_asks = asks_with p.frames.items f ∙ ap (λ (l : List RangeAsk). all_asks p.frames.items ++ l) is.asks

  pub framed_pieces : all_pieces (p.frames.items ++ f ∷ []) ≡ pieces_in p
  framed_pieces = pieces_with p.frames.items f ∙ ap (λ (s : EntryMap). all_pieces p.frames.items ++ s ∷ []) is.piece

  pub closed_says : (now : Packing) → f.more ≡ true → now.frames.items ≡ p.frames.items ++ f ∷ [] → now.hello ≡ None → now.prints.items ≡ [] → now.asks.items ≡ [] → now.store ≡ finmap.empty → SaysAlso p now [] [] finmap.empty
  closed_says now more frames hello prints asks store = record {
    prints = ap (λ (l : List RangePrint). all_prints now.frames.items ++ l) prints ∙ ap (λ (l : List Frame). all_prints l ++ []) frames ∙ ap (λ (l : List RangePrint). l ++ []) framed_prints;
    asks = ap (λ (l : List RangeAsk). all_asks now.frames.items ++ l) asks ∙ ap (λ (l : List Frame). all_asks l ++ []) frames ∙ ap (λ (l : List RangeAsk). l ++ []) framed_asks;
    pieces = λ s.
        joined_last s (all_pieces now.frames.items) now.store
        ∙ ap (λ (l : List Frame). join (joined s (all_pieces l)) now.store) frames
        ∙ ap (λ (l : List EntryMap). join (joined s l) now.store) framed_pieces
        ∙ ap (join (joined s (pieces_in p))) store;
    linked = λ first known.
        let before : AreBefore first p.frames.items f.hello = subst (λ h. AreBefore first p.frames.items h) (sym is.hello) known in
        subst (λ h. AreBefore first now.frames.items h) (sym hello) (subst (λ (l : List Frame). AreBefore first l None) (sym frames) (before_more first p.frames.items f before more));
  }

  pub ended_frames : (fs : List Frame) → f.more ≡ false → fs ≡ p.frames.items ++ f ∷ [] → (first : Option Hello) → IsOpen first p → AreFrames first fs
  ended_frames fs more whole first known = record { front = p.frames.items; last = f; whole = whole; before = subst (λ h. AreBefore first p.frames.items h) (sym is.hello) known; ends = more }

-- an edit is joined in what was open
pub edited_says : (old mid now : Packing) (e : Edit) → SaysAlso old mid [] [] finmap.empty → now.frames.items ≡ mid.frames.items → now.hello ≡ mid.hello → now.prints.items ≡ mid.prints.items → now.asks.items ≡ mid.asks.items
    → now.store ≡ with_edit mid.store e → SaysAlso old now [] [] (sum_of (e ∷ []))
edited_says old mid now e is frames hello prints asks store = record {
  prints = (λ i. all_prints (frames i) ++ prints i) ∙ is.prints;
  asks = (λ i. all_asks (frames i) ++ asks i) ∙ is.asks;
  pieces = λ s.
      let before : EntryMap = joined s (all_pieces mid.frames.items) in
      joined_last s (all_pieces now.frames.items) now.store
      ∙ (λ i. join (joined s (all_pieces (frames i))) (store i))
      ∙ ap (join before) (with_edit-join mid.store e)
      ∙ sym (join_assoc before mid.store (sum_of (e ∷ [])))
      ∙ ap (λ (m : EntryMap). join m (sum_of (e ∷ []))) (sym (joined_last s (all_pieces mid.frames.items) mid.store) ∙ is.pieces s ∙ join_nothing (joined s (pieces_in old)));
  linked = λ first known. subst (λ h. AreBefore first now.frames.items h) (sym hello) (subst (λ (l : List Frame). AreBefore first l mid.hello) (sym frames) (is.linked first known));
}

-- a piece is sent after others
pub piece_more : (old mid now : Packing) (sent : List EntryMap) (piece : EntryMap) → ((s : EntryMap) → joined s (pieces_in mid) ≡ joined (joined s (pieces_in old)) sent) → SaysAlso mid now [] [] piece
    → (s : EntryMap) → joined s (pieces_in now) ≡ joined (joined s (pieces_in old)) (sent ++ piece ∷ [])
piece_more old mid now sent piece so_far says s = says.pieces s ∙ ap (λ (m : EntryMap). join m piece) (so_far s) ∙ sym (joined_last (joined s (pieces_in old)) sent piece)

-- ---- weights

pub total_push : {X : Type 0} (weight : X → ℕ) (xs : List X) (x : X) → total weight (xs ++ x ∷ []) ≡ total weight xs + weight x
total_push weight [] x = omega arith
total_push weight (y ∷ xs) x = let more = total_push weight xs x in omega (arith, more)

pub heavier_same : (p : Packing) → IsHeavier p p 0
heavier_same p w is few = let same : w ≡ w + 0 = omega arith in subst (λ k. (p.frames.items ≡ []) × (p.weight ≡ k)) same (is (omega (arith, few)))

pub heavier_in : (a b c : Packing) (k l m : ℕ) → IsHeavier a b k → IsHeavier b c l → k + l ≡ m → IsHeavier a c m
heavier_in a b c k l m one two both w is =
    let same : (w + k) + l ≡ w + m = omega (arith, both) in
    subst (λ n. Weighs c n) same (two (w + k) (one w is))

pub weight_push : {X : Type 0} (a b c : Packing) (weight : X → ℕ) (xs : List X) (x : X) → IsHeavier a b (total weight xs) → IsHeavier b c (weight x) → IsHeavier a c (total weight (xs ++ x ∷ []))
weight_push a b c weight xs x one two = heavier_in a b c (total weight xs) (weight x) (total weight (xs ++ x ∷ [])) one two (sym (total_push weight xs x))

-- ---- entries of a piece

-- these entries of a piece were added, and those are left
pub record ArePacked (piece : EntryMap) (begin now : Packing) (left : List (PlaceParts × Entry)) : Type 0 where
  pub added : List (PlaceParts × Entry)
  pub whole : added ++ left ≡ finmap.entries piece
  pub says : SaysAlso begin now [] [] (sum_of (map edit_of added))
  pub heavier : IsHeavier begin now (total entry_weight added)

pub packing_begins : (piece : EntryMap) (begin : Packing) (left : List (PlaceParts × Entry)) → left ≡ finmap.entries piece → ArePacked piece begin begin left
packing_begins piece begin left all = record { added = []; whole = all; says = says_same begin; heavier = heavier_same begin }

pub packing_goes_on : (piece : EntryMap) (begin now next : Packing) (left rest : List (PlaceParts × Entry)) (e : PlaceParts × Entry) → ArePacked piece begin now left → left ≡ e ∷ rest → SaysAlso now next [] [] (sum_of (edit_of e ∷ []))
    → IsHeavier now next (entry_weight e) → ArePacked piece begin next rest
packing_goes_on piece begin now next left rest e are first says heavier = record {
  added = are.added ++ e ∷ [];
  whole = append_assoc are.added (e ∷ []) rest ∙ ap (λ (l : List (PlaceParts × Entry)). are.added ++ l) (sym first) ∙ are.whole;
  says = says_in begin now next [] [] [] [] [] [] (sum_of (map edit_of are.added)) (sum_of (edit_of e ∷ [])) (sum_of (map edit_of (are.added ++ e ∷ []))) are.says says refl refl
      (sym (sum_of-append (map edit_of are.added) (edit_of e ∷ [])) ∙ ap sum_of (sym (map-append edit_of are.added (e ∷ []))));
  heavier = weight_push begin now next entry_weight are.added e are.heavier heavier;
}

pub packing_ends : (piece : EntryMap) (begin now : Packing) (left : List (PlaceParts × Entry)) → ArePacked piece begin now left → left ≡ [] → SaysAlso begin now [] [] piece × IsHeavier begin now (piece_weight piece)
packing_ends piece begin now left are none =
    let all : are.added ≡ finmap.entries piece = sym (append-nil are.added) ∙ ap (λ (l : List (PlaceParts × Entry)). are.added ++ l) (sym none) ∙ are.whole in
    let sum : sum_of (map edit_of are.added) ≡ piece = ap (λ (l : List (PlaceParts × Entry)). sum_of (map edit_of l)) all ∙ sum_of-edits_of piece in
    (subst (λ (s : EntryMap). SaysAlso begin now [] [] s) sum are.says, subst (λ (l : List (PlaceParts × Entry)). IsHeavier begin now (total entry_weight l)) all are.heavier)

-- ---- a message

-- what was added to nothing
pub all_sent : (begin one two three : Packing) (ps : List RangePrint) (xs : List RangeAsk) (sent : List EntryMap) → begin.frames.items ≡ [] → begin.store ≡ finmap.empty → SaysAlso begin one ps [] finmap.empty → SaysAlso one two [] xs finmap.empty
    → ((s : EntryMap) → joined s (pieces_in three) ≡ joined (joined s (pieces_in two)) sent) → (s : EntryMap) → joined s (pieces_in three) ≡ joined s sent
all_sent begin one two three ps xs sent frames store first second third s =
    let none : joined s (pieces_in begin) ≡ s = (λ i. joined s (all_pieces (frames i) ++ store i ∷ [])) ∙ join_nothing s in
    third s
    ∙ ap (λ (t : EntryMap). joined t sent) (second.pieces s ∙ join_nothing (joined s (pieces_in one)) ∙ first.pieces s ∙ join_nothing (joined s (pieces_in begin)) ∙ none)

-- what fits stands in one frame
pub one_frame : (begin one two three : Packing) (k l m count : ℕ) → begin.frames.items ≡ [] → begin.weight ≡ 0 → IsHeavier begin one k → IsHeavier one two l → IsHeavier two three m → count ≡ suc (length three.frames.items) → k + (l + m) ≤ frame_limit → count ≡ 1
one_frame begin one two three k l m count frames weight first second third is few =
    let start : Weighs begin 0 = λ any. (frames, weight) in
    let all = third ((0 + k) + l) (second (0 + k) (first 0 start)) in
    let within : ((0 + k) + l) + m ≤ frame_limit = omega (arith, few) in
    is ∙ ap (λ (fs : List Frame). suc (length fs)) (all within).0
