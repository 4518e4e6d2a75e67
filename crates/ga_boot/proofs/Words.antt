-- Which words a script takes and posts at each side.
use Rattle.ga_path.specs.declared.parts.Part.{Part}
use Rattle.ga_path.specs.declared.parts.Part.TheVariants.{Load, Start}
use Rattle.std.proofs.Common.{◌≡◌, ℕ, ◌-◌, ◌==◌, Bool, true, false, List, [], ◌∷◌, ◌++◌, length, map, Option, Some, None, refl, ap, ap₂, ◌∙◌, append-nil}
use Rattle.std.specs.Prelude.{if◌then◌else◌}
use Rattle.std.proofs.lemmas.List.Concat.{flat_map-append}
use Rattle.ga_place.specs.Address.{port_address_of}
use Rattle.ga_place.specs.Side.{side_bit}
use Rattle.ga_place.specs.declared.side.Side.{Side}
use Rattle.ga_frame.specs.Frame.{MORE}
use Rattle.ga_asm.specs.Image.{ImageView}
use Rattle.ga_path.specs.Sequences.{Grove, Bare, Tree, SET_A, PUSH, SEND, STORE, NOPS, pump, jump_to, load, sent, pumps, frames, part_words, start_address, own_frame, frame}
use Rattle.ga_boot.specs.inner.Local.{Local, Own, Feed, Take, taken_at, posted_at, fed_by, taken, posted, fed}
use Rattle.ga_boot.specs.inner.Script.{head_moves, send_moves, pump_moves, store_moves, load_moves, subtree_moves, load_script, start_script, post_moves, frame_moves, subtree_frames, root_script}

-- words at one side, and none at another
abbrev pub at_side : Side → Side → List ℕ → List ℕ
at_side side to words = if side_bit side == side_bit to then words else []

if_append : (b : Bool) (xs ys : List ℕ)
    → (if b then xs else []) ++ (if b then ys else []) ≡ (if b then xs ++ ys else [])
if_append true xs ys = refl
if_append false xs ys = refl

at_append : (side to : Side) (xs ys : List ℕ)
    → at_side side to xs ++ at_side side to ys ≡ at_side side to (xs ++ ys)
at_append side to xs ys = if_append (side_bit side == side_bit to) xs ys

if_nil : (b : Bool) → ◌≡◌ {A = List ℕ} [] (if b then [] else [])
if_nil true = refl
if_nil false = refl

-- taken
taken-append : (to : Side) (ms more : List Local) (xs ys : List ℕ) → taken to ms ≡ xs
    → taken to more ≡ ys → taken to (ms ++ more) ≡ xs ++ ys
taken-append to ms more xs ys e f = flat_map-append (taken_at to) ms more ∙ ap₂ (λ a b. a ++ b) e f

taken_both : (side to : Side) (ms more : List Local) (xs ys : List ℕ)
    → taken to ms ≡ at_side side to xs → taken to more ≡ at_side side to ys
    → taken to (ms ++ more) ≡ at_side side to (xs ++ ys)
taken_both side to ms more xs ys e f =
    taken-append to ms more (at_side side to xs) (at_side side to ys) e f ∙ at_append side to xs ys

taken_sent : (side to out : Side) (words : List ℕ)
    → taken to (send_moves side out words) ≡ at_side side to words
taken_sent side to out [] = if_nil (side_bit side == side_bit to)
taken_sent side to out (word ∷ words) =
    ap (λ l. at_side side to (word ∷ []) ++ l) (taken_sent side to out words)
    ∙ at_append side to (word ∷ []) words

taken_stored : (side to : Side) (words : List ℕ)
    → taken to (store_moves side words) ≡ at_side side to words
taken_stored side to [] = if_nil (side_bit side == side_bit to)
taken_stored side to (word ∷ words) =
    ap (λ l. at_side side to (word ∷ []) ++ l) (taken_stored side to words)
    ∙ at_append side to (word ∷ []) words

if_head : (b : Bool) (v w x y z : ℕ)
    → (if b then v ∷ [] else []) ++ ((if b then w ∷ [] else []) ++ ((if b then x ∷ [] else [])
    ++ ((if b then y ∷ [] else []) ++ ((if b then z ∷ [] else []) ++ []))))
    ≡ (if b then v ∷ w ∷ x ∷ y ∷ z ∷ [] else [])
if_head true v w x y z = refl
if_head false v w x y z = refl

taken_head : (side to : Side) (address count loop : ℕ)
    → taken to (head_moves side address count loop)
    ≡ at_side side to (SET_A ∷ address ∷ count ∷ PUSH ∷ loop ∷ [])
taken_head side to address count loop =
    if_head (side_bit side == side_bit to) SET_A address count PUSH loop

taken_pump : (side to out : Side) (words : List ℕ)
    → taken to (pump_moves side out words) ≡ at_side side to (pump out words)
taken_pump side to out words =
    taken_both side to (head_moves side (port_address_of out) (length words - 1) SEND)
    (send_moves side out words) (SET_A ∷ port_address_of out ∷ (length words - 1) ∷ PUSH ∷ SEND
    ∷ []) words (taken_head side to (port_address_of out) (length words - 1) SEND)
    (taken_sent side to out words)

taken_load : (side to : Side) (image : Option ImageView)
    → taken to (load_moves side image) ≡ at_side side to (load image)
taken_load side to None = if_nil (side_bit side == side_bit to)
taken_load side to (Some image) =
    taken_both side to (head_moves side 0 (length image.words - 1) STORE) (store_moves side
    image.words) (SET_A ∷ 0 ∷ (length image.words - 1) ∷ PUSH ∷ STORE ∷ []) image.words
    (taken_head side to 0 (length image.words - 1) STORE) (taken_stored side to image.words)

taken_subtrees : (part : Part) (side to : Side) (inner : Grove)
    → taken to (subtree_moves part side inner) ≡ at_side side to (pumps part inner)
taken_subtrees part side to Bare = if_nil (side_bit side == side_bit to)
taken_subtrees part side to (Tree name out image inner beside) =
    let words = sent part name out image (pumps part inner) in
    taken_both side to (pump_moves side out words) (subtree_moves part side beside) (pump out words)
    (pumps part beside) (taken_pump side to out words) (taken_subtrees part side to beside)

taken_one : (side to : Side) (word : ℕ)
    → taken to (Take side word ∷ []) ≡ at_side side to (word ∷ [])
taken_one side to word = append-nil _

-- A NODE TAKES THE WORDS THAT IT IS SENT, only at its parent's side
pub taken_loading : (name : ℕ) (side to : Side) (image : Option ImageView) (inner : Grove)
    → taken to (load_script side image inner)
    ≡ at_side side to (sent Load name side image (pumps Load inner))
taken_loading name side to image inner =
    taken_both side to (Take side (jump_to (port_address_of side)) ∷ Own ∷ [])
    (subtree_moves Load side inner ++ (load_moves side image ++ Take side NOPS ∷ []))
    (jump_to (port_address_of side) ∷ []) (pumps Load inner ++ (load image ++ NOPS ∷ []))
    (append-nil _)
    (taken_both side to (subtree_moves Load side inner) (load_moves side image ++ Take side NOPS
    ∷ []) (pumps Load inner) (load image ++ NOPS ∷ []) (taken_subtrees Load side to inner)
    (taken_both side to (load_moves side image) (Take side NOPS ∷ []) (load image)
    (NOPS ∷ []) (taken_load side to image) (taken_one side to NOPS)))

pub taken_starting : (name : ℕ) (side to : Side) (image : Option ImageView) (inner : Grove)
    → taken to (start_script name side image inner)
    ≡ at_side side to (sent Start name side image (pumps Start inner))
taken_starting name side to image inner =
    taken_both side to (subtree_moves Start side inner)
    (Take side (jump_to (start_address name image)) ∷ Own ∷ []) (pumps Start inner)
    (jump_to (start_address name image) ∷ []) (taken_subtrees Start side to inner) (append-nil _)

-- posted
posted-append : (to : Side) (ms more : List Local) (xs ys : List ℕ) → posted to ms ≡ xs
    → posted to more ≡ ys → posted to (ms ++ more) ≡ xs ++ ys
posted-append to ms more xs ys e f =
    flat_map-append (posted_at to) ms more ∙ ap₂ (λ a b. a ++ b) e f

-- the words of the subtrees at a side
abbrev pub words_to : Part → Side → Grove → List ℕ
words_to part to Bare = []
words_to part to (Tree name out image inner beside) =
    at_side out to (sent part name out image (pumps part inner)) ++ words_to part to beside

posted_sends : (side to out : Side) (words : List ℕ)
    → posted to (send_moves side out words) ≡ at_side out to words
posted_sends side to out [] = if_nil (side_bit out == side_bit to)
posted_sends side to out (word ∷ words) =
    ap (λ l. at_side out to (word ∷ []) ++ l) (posted_sends side to out words)
    ∙ at_append out to (word ∷ []) words

posted_posts : (to out : Side) (words : List ℕ)
    → posted to (post_moves out words) ≡ at_side out to words
posted_posts to out [] = if_nil (side_bit out == side_bit to)
posted_posts to out (word ∷ words) =
    ap (λ l. at_side out to (word ∷ []) ++ l) (posted_posts to out words)
    ∙ at_append out to (word ∷ []) words

posted_subtrees : (part : Part) (side to : Side) (inner : Grove)
    → posted to (subtree_moves part side inner) ≡ words_to part to inner
posted_subtrees part side to Bare = refl
posted_subtrees part side to (Tree name out image inner beside) =
    let words = sent part name out image (pumps part inner) in
    posted-append to (pump_moves side out words) (subtree_moves part side beside)
    (at_side out to words) (words_to part to beside) (posted_sends side to out words)
    (posted_subtrees part side to beside)

posted_frames : (part : Part) (to : Side) (trees : Grove)
    → posted to (subtree_frames part trees) ≡ words_to part to trees
posted_frames part to Bare = refl
posted_frames part to (Tree name out image inner beside) =
    let words = sent part name out image (pumps part inner) in
    posted-append to (frame_moves out words) (subtree_frames part beside) (at_side out to words)
    (words_to part to beside) (posted_posts to out words) (posted_frames part to beside)

posted_stores : (side to : Side) (words : List ℕ) → posted to (store_moves side words) ≡ []
posted_stores side to [] = refl
posted_stores side to (word ∷ words) = posted_stores side to words

posted_load : (side to : Side) (image : Option ImageView) → posted to (load_moves side image) ≡ []
posted_load side to None = refl
posted_load side to (Some image) = posted_stores side to image.words

posted_feeds : (to : Side) (words : List ℕ) → posted to (map Feed words) ≡ []
posted_feeds to [] = refl
posted_feeds to (word ∷ words) = posted_feeds to words

-- A NODE POSTS at a side the words of the subtrees there
pub posted_loading : (side to : Side) (image : Option ImageView) (inner : Grove)
    → posted to (load_script side image inner) ≡ words_to Load to inner
posted_loading side to image inner =
    posted-append to (subtree_moves Load side inner) (load_moves side image ++ Take side NOPS ∷ [])
    (words_to Load to inner) [] (posted_subtrees Load side to inner) (posted-append to
    (load_moves side image) (Take side NOPS ∷ []) [] [] (posted_load side to image) refl)
    ∙ append-nil _

pub posted_starting : (name : ℕ) (side to : Side) (image : Option ImageView) (inner : Grove)
    → posted to (start_script name side image inner) ≡ words_to Start to inner
posted_starting name side to image inner =
    posted-append to (subtree_moves Start side inner)
    (Take side (jump_to (start_address name image)) ∷ Own ∷ []) (words_to Start to inner)
    [] (posted_subtrees Start side to inner) refl ∙ append-nil _

pub posted_root : (part : Part) (to : Side) (name : ℕ) (image : Option ImageView) (trees : Grove)
    → posted to (root_script part name image trees) ≡ words_to part to trees
posted_root part to name image trees =
    posted-append to (subtree_frames part trees) (map Feed (own_frame part name image))
    (words_to part to trees) [] (posted_frames part to trees)
    (posted_feeds to (own_frame part name image)) ∙ append-nil _

-- fed
fed-append : (ms more : List Local) (xs ys : List ℕ) → fed ms ≡ xs → fed more ≡ ys
    → fed (ms ++ more) ≡ xs ++ ys
fed-append ms more xs ys e f = flat_map-append fed_by ms more ∙ ap₂ (λ a b. a ++ b) e f

fed_posts : (out : Side) (words : List ℕ) → fed (post_moves out words) ≡ words
fed_posts out [] = refl
fed_posts out (word ∷ words) = ap (λ l. word ∷ l) (fed_posts out words)

fed_feeds : (words : List ℕ) → fed (map Feed words) ≡ words
fed_feeds [] = refl
fed_feeds (word ∷ words) = ap (λ l. word ∷ l) (fed_feeds words)

fed_frame : (out : Side) (words : List ℕ)
    → fed (frame_moves out words) ≡ frame MORE (port_address_of out) words
fed_frame out words = ap (λ l. MORE ∷ port_address_of out ∷ length words ∷ l) (fed_posts out words)

fed_frames : (part : Part) (trees : Grove) → fed (subtree_frames part trees) ≡ frames part trees
fed_frames part Bare = refl
fed_frames part (Tree name out image inner beside) =
    let words = sent part name out image (pumps part inner) in
    fed-append (frame_moves out words) (subtree_frames part beside) (frame MORE
    (port_address_of out) words) (frames part beside) (fed_frame out words) (fed_frames part beside)

-- THE ROOT IS FED both parts of its stream
pub fed_root : (part : Part) (name : ℕ) (image : Option ImageView) (trees : Grove)
    → fed (root_script part name image trees) ≡ part_words part name image trees
fed_root part name image trees =
    fed-append (subtree_frames part trees) (map Feed (own_frame part name image))
    (frames part trees) (own_frame part name image) (fed_frames part trees)
    (fed_feeds (own_frame part name image))

-- and takes nothing, and no other node is fed
taken_posts : (to out : Side) (words : List ℕ) → taken to (post_moves out words) ≡ []
taken_posts to out [] = refl
taken_posts to out (word ∷ words) = taken_posts to out words

taken_feeds : (to : Side) (words : List ℕ) → taken to (map Feed words) ≡ []
taken_feeds to [] = refl
taken_feeds to (word ∷ words) = taken_feeds to words

taken_frames : (part : Part) (to : Side) (trees : Grove) → taken to (subtree_frames part trees) ≡ []
taken_frames part to Bare = refl
taken_frames part to (Tree name out image inner beside) =
    let words = sent part name out image (pumps part inner) in
    taken-append to (frame_moves out words)
    (subtree_frames part beside) [] [] (taken_posts to out words) (taken_frames part to beside)

taken_part : (part : Part) (to : Side) (name : ℕ) (image : Option ImageView) (trees : Grove)
    → taken to (root_script part name image trees) ≡ []
taken_part part to name image trees =
    taken-append to (subtree_frames part trees) (map Feed (own_frame part name image))
    [] [] (taken_frames part to trees) (taken_feeds to (own_frame part name image))

pub taken_root : (to : Side) (name : ℕ) (image : Option ImageView) (trees : Grove)
    → taken to (root_script Load name image trees ++ root_script Start name image trees) ≡ []
taken_root to name image trees =
    taken-append to (root_script Load name image trees) (root_script Start name image trees)
    [] [] (taken_part Load to name image trees) (taken_part Start to name image trees)

fed_sends : (side out : Side) (words : List ℕ) → fed (send_moves side out words) ≡ []
fed_sends side out [] = refl
fed_sends side out (word ∷ words) = fed_sends side out words

fed_stores : (side : Side) (words : List ℕ) → fed (store_moves side words) ≡ []
fed_stores side [] = refl
fed_stores side (word ∷ words) = fed_stores side words

fed_load : (side : Side) (image : Option ImageView) → fed (load_moves side image) ≡ []
fed_load side None = refl
fed_load side (Some image) = fed_stores side image.words

fed_subtrees : (part : Part) (side : Side) (inner : Grove)
    → fed (subtree_moves part side inner) ≡ []
fed_subtrees part side Bare = refl
fed_subtrees part side (Tree name out image inner beside) =
    let words = sent part name out image (pumps part inner) in
    fed-append (pump_moves side out words) (subtree_moves part side beside)
    [] [] (fed_sends side out words) (fed_subtrees part side beside)

pub fed_inside : (name : ℕ) (side : Side) (image : Option ImageView) (inner : Grove)
    → fed (load_script side image inner ++ start_script name side image inner) ≡ []
fed_inside name side image inner =
    fed-append (load_script side image inner) (start_script name side image inner) [] []
    (fed-append (subtree_moves Load side inner)
    (load_moves side image ++ Take side NOPS ∷ []) [] [] (fed_subtrees Load side inner)
    (fed-append (load_moves side image) (Take side NOPS ∷ []) [] [] (fed_load side image) refl))
    (fed-append (subtree_moves Start side inner) (Take side (jump_to (start_address name image))
    ∷ Own ∷ []) [] [] (fed_subtrees Start side inner) refl)
