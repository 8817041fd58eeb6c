-- Messages that are read and written, frame by frame.
use Rattle.std.proofs.Common.{◌≡◌, ◌++◌, ◌+◌, ◌<◌, ◌∷◌, ◌∙◌, [], ap, append-nil, append_assoc, arith, Err, false, get_or, length, List, None, Ok, OnOk, Option, refl, Result, Some, subst, suc, sym, take, true, zero, ℕ}
use Rattle.std.proofs.lemmas.List.{map-append, take_more}
use Rattle.std.proofs.lemmas.List.Concat.{flat_map-append}
use Rattle.std.proofs.lemmas.Grind.{fold-append}
use Rattle.std.proofs.lemmas.Nat.{be_bytes_4}
use Rattle.std.specs.Prelude.{IsPermutation}
use Rattle.std.specs.Int.{from_be_bytes, to_be_bytes, w32}
use Rattle.std.specs.Io.KnownBytes.{Appends, Consumes}
use Rattle.script_pipes.specs.KnownBytesLaws.{Appends-append, Appends-nothing, Consumes-append}
use Rattle.edit_sums.specs.Sums.{EntryMap, join}
use Rattle.edit_log.specs.declared.logs.{LogHead.{LogHead}, LogPeer.{LogPeer}}
use Rattle.durable_node.specs.Peers.{AreLatest}
use Rattle.exchange_session.specs.{Joined.{joined}, Standing.{opening, Said}}
use Rattle.exchange_session.specs.declared.messages.{RangeAsk.{RangeAsk}, RangePrint.{RangePrint}}
use Rattle.exchange_bytes.specs.Cutting.{all_asks, all_pieces, all_prints, AreBefore, AreFrames}
use Rattle.exchange_bytes.specs.Frames.{parts_of}
use Rattle.exchange_bytes.specs.Spelling.{frame_spelling}
use Rattle.exchange_bytes.specs.declared.frames.{Frame.{Frame}, Hello.{Hello}}
use Rattle.node_exchange.specs.Hearing.{Hears}
use Rattle.node_exchange.specs.Streams.{framed, on_stream, to_answer}
use Rattle.node_meetings.specs.Meeting.{IsHelloOf, MayMeet, news_of}
use Rattle.node_exchange.specs.Talks.{begun, Calls, Ended, heard_out, IsAnswer, IsQuiet, Notes, Responds, said_out, Say, Talk, Talks, turned, Written}

-- the items up to an index, with the one there
pub taken_last : {X : Type 0} (xs : List X) (i : ℕ) (x : X) → i < length xs → x ≡ get_or xs i x → take (i + 1) xs ≡ take i xs ++ x ∷ []
taken_last {X} xs i x low is = take_more xs i x low ∙ ap (λ (y : X). take i xs ++ y ∷ []) (sym is)

-- ---- bytes

pub consumes_nothing : (known : Option (List ℕ)) → Consumes known known []
consumes_nothing None = tt
consumes_nothing (Some bytes) = refl

pub stream_append : (fs gs : List Frame) → on_stream (fs ++ gs) ≡ on_stream fs ++ on_stream gs
stream_append [] gs = refl
stream_append (f ∷ fs) gs = ap (λ l. framed f ++ l) (stream_append fs gs) ∙ sym (append_assoc (framed f) (on_stream fs) (on_stream gs))

-- a frame's bytes behind their length are the frame on a stream
stream_one : (f : Frame) (head bytes : List ℕ) → bytes ≡ frame_spelling (parts_of f) → head ≡ to_be_bytes w32 (length bytes) → head ++ bytes ≡ on_stream (f ∷ [])
unfolding framed
stream_one f head bytes spelled counts =
    ap (λ l. l ++ bytes) counts ∙ ap (λ l. to_be_bytes w32 (length l) ++ l) spelled ∙ sym (append-nil (framed f))

pub frame_written : (a b c : Option (List ℕ)) (f : Frame) (head bytes : List ℕ) → bytes ≡ frame_spelling (parts_of f) → head ≡ to_be_bytes w32 (length bytes)
    → Appends a b head → Appends b c bytes → Appends a c (on_stream (f ∷ []))
frame_written a b c f head bytes spelled counts one two = subst (λ l. Appends a c l) (stream_one f head bytes spelled counts) (Appends-append a b c head bytes one two)

pub frame_read : (a b c : Option (List ℕ)) (f : Frame) (head bytes : List ℕ) → bytes ≡ frame_spelling (parts_of f) → head ≡ to_be_bytes w32 (length bytes)
    → Consumes a b head → Consumes b c bytes → Consumes a c (on_stream (f ∷ []))
frame_read a b c f head bytes spelled counts one two = subst (λ l. Consumes a c l) (stream_one f head bytes spelled counts) (Consumes-append a b c head bytes one two)

-- frames that are read behind others
pub read_more : (a b c : Option (List ℕ)) (fs gs : List Frame) → Consumes a b (on_stream fs) → Consumes b c (on_stream gs) → Consumes a c (on_stream (fs ++ gs))
read_more a b c fs gs one two = subst (λ l. Consumes a c l) (sym (stream_append fs gs)) (Consumes-append a b c (on_stream fs) (on_stream gs) one two)

-- frames that are written behind others
pub written_more : (a b c : Option (List ℕ)) (fs gs : List Frame) → Appends a b (on_stream fs) → Appends b c (on_stream gs) → Appends a c (on_stream (fs ++ gs))
written_more a b c fs gs one two = subst (λ l. Appends a c l) (sym (stream_append fs gs)) (Appends-append a b c (on_stream fs) (on_stream gs) one two)

four_small : (a b c d : ℕ) → a < 256 → b < 256 → c < 256 → d < 256 → (i : ℕ) → get_or (a ∷ b ∷ c ∷ d ∷ []) i 0 < 256
four_small a b c d p q r s zero = p
four_small a b c d p q r s (suc zero) = q
four_small a b c d p q r s (suc (suc zero)) = r
four_small a b c d p q r s (suc (suc (suc zero))) = s
four_small a b c d p q r s (suc (suc (suc (suc i)))) = omega arith

-- four bytes that are read as a number are its bytes
pub four_back : (a b c d n : ℕ) → a < 256 → b < 256 → c < 256 → d < 256 → n ≡ from_be_bytes w32 (a ∷ b ∷ c ∷ d ∷ []) → to_be_bytes w32 n ≡ a ∷ b ∷ c ∷ d ∷ []
four_back a b c d n p q r s is = be_bytes_4 (a ∷ b ∷ c ∷ d ∷ []) n refl (four_small a b c d p q r s) is

-- ---- a message that is heard

before_more : (first : Option Hello) (fs : List Frame) (f : Frame) → AreBefore first fs f.hello → f.more ≡ true → AreBefore first (fs ++ f ∷ []) None
before_more first [] f is more = (is, (more, refl))
before_more first (g ∷ fs) f is more = (is.0, (is.1.0, before_more None fs f is.1.1 more))

joined_last : (s : EntryMap) (xs : List EntryMap) (x : EntryMap) → joined s (xs ++ x ∷ []) ≡ join (joined s xs) x
joined_last s xs x = fold-append join s xs (x ∷ [])

-- what was heard before a frame that is read and not taken yet
pub record Hearing (first now : Frame) (from s : EntryMap) (told : List RangePrint) (asked : List RangeAsk) (read_before read : Option (List ℕ)) : Type 0 where
  pub done : List Frame
  pub rest : List Frame
  pub order : first ∷ rest ≡ done ++ now ∷ []
  pub before : AreBefore first.hello done now.hello
  pub prints : told ≡ all_prints done
  pub asks : asked ≡ all_asks done
  pub taken : s ≡ joined from (all_pieces done)
  pub consumed : Consumes read_before read (on_stream rest)

pub hearing_begun : (first : Frame) (from : EntryMap) (prints : List RangePrint) (asks : List RangeAsk) (known : Option (List ℕ)) → prints ≡ [] → asks ≡ [] → Hearing first first from from prints asks known known
hearing_begun first from prints asks known no_prints no_asks =
    record { done = []; rest = []; order = refl; before = refl; prints = no_prints; asks = no_asks; taken = refl; consumed = consumes_nothing known }

all_prints_last : (fs : List Frame) (f : Frame) → all_prints (fs ++ f ∷ []) ≡ all_prints fs ++ f.prints.items
all_prints_last fs f = flat_map-append (λ (g : Frame). g.prints.items) fs (f ∷ []) ∙ ap (λ l. all_prints fs ++ l) (append-nil f.prints.items)

all_asks_last : (fs : List Frame) (f : Frame) → all_asks (fs ++ f ∷ []) ≡ all_asks fs ++ f.asks.items
all_asks_last fs f = flat_map-append (λ (g : Frame). g.asks.items) fs (f ∷ []) ∙ ap (λ l. all_asks fs ++ l) (append-nil f.asks.items)

all_taken : (from : EntryMap) (fs : List Frame) (f : Frame) → join (joined from (all_pieces fs)) f.piece ≡ joined from (all_pieces (fs ++ f ∷ []))
all_taken from fs f = sym (ap (joined from) (map-append (λ (g : Frame). g.piece) fs (f ∷ [])) ∙ joined_last from (all_pieces fs) f.piece)

-- the frame is taken, and it says that more come: the next is read, which has no hello
pub hearing_more : (first now next : Frame) (from s t : EntryMap) (prints prints' : List RangePrint) (asks asks' : List RangeAsk) (a b c : Option (List ℕ))
    → Hearing first now from s prints asks a b → t ≡ join s now.piece → prints' ≡ prints ++ now.prints.items → asks' ≡ asks ++ now.asks.items → now.more ≡ true
    → next.hello ≡ None → Consumes b c (on_stream (next ∷ [])) → Hearing first next from t prints' asks' a c
hearing_more first now next from s t prints prints' asks asks' a b c h taken told asked more unnamed read = record {
  done = h.done ++ now ∷ [];
  rest = h.rest ++ next ∷ [];
  order = ap (λ l. l ++ next ∷ []) h.order;
  before = subst (λ hello. AreBefore first.hello (h.done ++ now ∷ []) hello) (sym unnamed) (before_more first.hello h.done now h.before more);
  prints = told ∙ ap (λ l. l ++ now.prints.items) h.prints ∙ sym (all_prints_last h.done now);
  asks = asked ∙ ap (λ l. l ++ now.asks.items) h.asks ∙ sym (all_asks_last h.done now);
  taken = taken ∙ ap (λ m. join m now.piece) h.taken ∙ all_taken from h.done now;
  consumed = read_more a b c h.rest (next ∷ []) h.consumed read;
}

-- the frame is taken, and it says that no more come
pub hearing_ends : (first now : Frame) (from s t : EntryMap) (prints prints' : List RangePrint) (asks asks' : List RangeAsk) (a b : Option (List ℕ))
    → Hearing first now from s prints asks a b → t ≡ join s now.piece → prints' ≡ prints ++ now.prints.items → asks' ≡ asks ++ now.asks.items → now.more ≡ false
    → Hears first from t prints' asks' a b
hearing_ends first now from s t prints prints' asks asks' a b h taken told asked more = record {
  rest = h.rest;
  message = record { front = h.done; last = now; whole = h.order; before = h.before; ends = more };
  prints = told ∙ ap (λ l. l ++ now.prints.items) h.prints ∙ sym (all_prints_last h.done now) ∙ ap all_prints (sym h.order);
  asks = asked ∙ ap (λ l. l ++ now.asks.items) h.asks ∙ sym (all_asks_last h.done now) ∙ ap all_asks (sym h.order);
  taken = taken ∙ ap (λ m. join m now.piece) h.taken ∙ all_taken from h.done now ∙ ap (λ fs. joined from (all_pieces fs)) (sym h.order);
  consumed = h.consumed;
}

-- ---- turns

-- what was said and heard so far
pub record Talking (seed : ℕ) (from : EntryMap) (first : Said) (hello : Option Hello) (s : EntryMap) (last : Said) (due : Option Hello) (written_before written read_before read : Option (List ℕ)) : Type 0 where
  pub said : List Frame
  pub heard : List Frame
  pub talk : Talk seed from first hello said heard s last due
  pub wrote : Appends written_before written (on_stream said)
  pub consumed : Consumes read_before read (on_stream heard)

pub talking_begun : (seed : ℕ) (from : EntryMap) (first : Said) (hello : Option Hello) (written read : Option (List ℕ)) → Talking seed from first hello from first hello written written read read
talking_begun seed from first hello written read = record { said = []; heard = []; talk = begun; wrote = Appends-nothing written; consumed = consumes_nothing read }

pub talking_more : (seed : ℕ) (from : EntryMap) (first : Said) (hello : Option Hello) (s t : EntryMap) (last answer : Said) (due : Option Hello) (wa wb wc ra rb rc rd : Option (List ℕ)) (next : Frame) (prints : List RangePrint) (asks : List RangeAsk)
    → Talking seed from first hello s last due wa wb ra rb → IsAnswer seed s last answer → Written due answer wb wc
    → next.hello ≡ None → Consumes rb rc (on_stream (next ∷ [])) → Hears next s t prints asks rc rd
    → Talking seed from first hello t (record { prints = prints; asks = asks; pieces = [] }) None wa wc ra rd
talking_more seed from first hello s t last answer due wa wb wc ra rb rc rd next prints asks far is told unnamed read hears =
    let fs = next ∷ hears.rest in
    let message : AreFrames None fs = subst (λ h. AreFrames h fs) unnamed hears.message in
    let talk = turned answer told.frames fs far.talk is told.are told.say message in
    let said : to_answer fs ≡ record { prints = prints; asks = asks; pieces = [] } = λ i. record { prints = sym hears.prints i; asks = sym hears.asks i; pieces = [] } in
    record {
      said = far.said ++ told.frames;
      heard = far.heard ++ fs;
      talk = subst (λ (m : Said). Talk seed from first hello (far.said ++ told.frames) (far.heard ++ fs) t m None) said
          (subst (λ (u : EntryMap). Talk seed from first hello (far.said ++ told.frames) (far.heard ++ fs) u (to_answer fs) None) (sym hears.taken) talk);
      wrote = written_more wa wb wc far.said told.frames far.wrote told.wrote;
      consumed = read_more ra rb rd far.heard fs far.consumed (read_more rb rc rd (next ∷ []) hears.rest read hears.consumed);
    }

pub talking_heard_out : (seed : ℕ) (from : EntryMap) (first : Said) (hello : Option Hello) (s : EntryMap) (last : Said) (due : Option Hello) (wa wb ra rb : Option (List ℕ))
    → Talking seed from first hello s last due wa wb ra rb → due ≡ None → IsQuiet last → Talks seed from first hello s wa wb ra rb
talking_heard_out seed from first hello s last due wa wb ra rb far none quiet =
    record { said = far.said; heard = far.heard; ended = heard_out (subst (λ d. Talk seed from first hello far.said far.heard s last d) none far.talk) quiet; wrote = far.wrote; consumed = far.consumed }

pub talking_said_out : (seed : ℕ) (from : EntryMap) (first : Said) (hello : Option Hello) (s : EntryMap) (last answer : Said) (due : Option Hello) (wa wb wc ra rb : Option (List ℕ))
    → Talking seed from first hello s last due wa wb ra rb → IsAnswer seed s last answer → Written due answer wb wc → IsQuiet answer → Talks seed from first hello s wa wc ra rb
talking_said_out seed from first hello s last answer due wa wb wc ra rb far is told quiet = record {
  said = far.said ++ told.frames;
  heard = far.heard;
  ended = said_out answer told.frames far.talk is told.are told.say quiet;
  wrote = written_more wa wb wc far.said told.frames far.wrote told.wrote;
  consumed = far.consumed;
}

-- what was answered, of what is the same
pub answer_moved : (seed : ℕ) (own own' : EntryMap) (told told' : List RangePrint) (asked asked' : List RangeAsk) (m : Said) → own ≡ own' → told ≡ told' → asked ≡ asked'
    → IsAnswer seed own (record { prints = told; asks = asked; pieces = [] }) m → IsAnswer seed own' (record { prints = told'; asks = asked'; pieces = [] }) m
answer_moved seed own own' told told' asked asked' m p q r is = subst (λ (x : Said). IsAnswer seed own' x m) (λ i. record { prints = q i; asks = r i; pieces = [] })
    (subst (λ (s : EntryMap). IsAnswer seed s (record { prints = told; asks = asked; pieces = [] }) m) p is)

-- ---- whole exchanges

first_heard : (seed : ℕ) (from mid to : EntryMap) (due : Option Hello) (f : Frame) (told : List RangePrint) (asked : List RangeAsk) (a b : Option (List ℕ)) (said heard : List Frame) (hears : Hears f from mid told asked a b)
    → Ended seed mid (record { prints = told; asks = asked; pieces = [] }) due said heard to → Ended seed (joined from (all_pieces (f ∷ hears.rest))) (to_answer (f ∷ hears.rest)) due said heard to
first_heard seed from mid to due f told asked a b said heard hears ended =
    subst (λ (m : Said). Ended seed (joined from (all_pieces (f ∷ hears.rest))) m due said heard to) (λ i. record { prints = hears.prints i; asks = hears.asks i; pieces = [] })
    (subst (λ (s : EntryMap). Ended seed s (record { prints = told; asks = asked; pieces = [] }) due said heard to) hears.taken ended)

pub called : (head : LogHead) (seed : ℕ) (from mid to : EntryMap) (Noted : List LogPeer → Hello → Type 0) (known : List LogPeer) (own met : Hello) (m : Said) (f : Frame) (told : List RangePrint) (asked : List RangeAsk) (k0 k1 k2 r0 r1 r2 r3 : Option (List ℕ))
    → IsHelloOf head known seed own → MayMeet head known met → Noted known met → Written (Some own) m k0 k1 → m ≡ opening seed from
    → f.hello ≡ Some met → Consumes r0 r1 (on_stream (f ∷ [])) → Hears f from mid told asked r1 r2 → Talks seed mid (record { prints = told; asks = asked; pieces = [] }) None to k1 k2 r2 r3
    → Calls head seed from to Noted (record { written_before = k0; written = k2; read_before = r0; read = r3 })
called head seed from mid to Noted known own met m f told asked k0 k1 k2 r0 r1 r2 r3 is_own may notes written opens says read hears talks = record {
  known = known;
  own = own;
  met = met;
  is_own = is_own;
  may = may;
  notes = notes;
  begins = written.frames;
  opens = written.are;
  says = subst (λ (x : Said). Say written.frames x) opens written.say;
  first = f ∷ hears.rest;
  answered = subst (λ h. AreFrames h (f ∷ hears.rest)) says hears.message;
  said = talks.said;
  heard = talks.heard;
  ended = first_heard seed from mid to None f told asked r1 r2 talks.said talks.heard hears talks.ended;
  wrote = written_more k0 k1 k2 written.frames talks.said written.wrote talks.wrote;
  consumed = read_more r0 r2 r3 (f ∷ hears.rest) talks.heard (read_more r0 r1 r2 (f ∷ []) hears.rest read hears.consumed) talks.consumed;
}

pub responded : (head : LogHead) (from mid to : EntryMap) (Noted : List LogPeer → Hello → Type 0) (known : List LogPeer) (own met : Hello) (f : Frame) (told : List RangePrint) (asked : List RangeAsk) (k0 k1 r0 r1 r2 r3 : Option (List ℕ))
    → IsHelloOf head known met.seed own → MayMeet head known met → Noted known met
    → f.hello ≡ Some met → Consumes r0 r1 (on_stream (f ∷ [])) → Hears f from mid told asked r1 r2 → Talks met.seed mid (record { prints = told; asks = asked; pieces = [] }) (Some own) to k0 k1 r2 r3
    → Responds head from to Noted (record { written_before = k0; written = k1; read_before = r0; read = r3 })
responded head from mid to Noted known own met f told asked k0 k1 r0 r1 r2 r3 is_own may notes says read hears talks = record {
  known = known;
  own = own;
  met = met;
  is_own = is_own;
  may = may;
  notes = notes;
  first = f ∷ hears.rest;
  begun = subst (λ h. AreFrames h (f ∷ hears.rest)) says hears.message;
  said = talks.said;
  heard = talks.heard;
  ended = first_heard met.seed from mid to (Some own) f told asked r1 r2 talks.said talks.heard hears talks.ended;
  wrote = talks.wrote;
  consumed = read_more r0 r2 r3 (f ∷ hears.rest) talks.heard (read_more r0 r1 r2 (f ∷ []) hears.rest read hears.consumed) talks.consumed;
}

-- whom a node knew and met was noted, and nothing was noted since
pub notes_kept : (head head' : LogHead) (known known' : List LogPeer) (met : Hello) (time : ℕ) (before mid noted after : List LogPeer) → AreLatest before known → mid ≡ before → head' ≡ head → known' ≡ known
    → IsPermutation (mid ++ news_of head' known' met time) noted → after ≡ noted → Notes head known met time before after
notes_kept head head' known known' met time before mid noted after latest same is_head is_known moved kept = record {
  latest = latest;
  noted = subst (λ (l : List LogPeer). IsPermutation (before ++ news_of head known met time) l) (sym kept)
      (subst (λ (l : List LogPeer). IsPermutation l noted) (λ i. same i ++ news_of (is_head i) (is_known i) met time) moved);
}

-- of an answer that is Ok, two facts make a third
pub both_ok : {A E : Type 0} (r : Result A E) (P H Q R : Type 0) → OnOk r P → (H → OnOk r Q) → (P → (H → Q) → R) → OnOk r R
both_ok (Ok x) P H Q R p q made = made p q
both_ok (Err e) P H Q R p q made = tt
