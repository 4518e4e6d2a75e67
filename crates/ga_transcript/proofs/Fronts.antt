-- The lines up to `go`: they lead to the same chip, whatever lines follow.
use Rattle.std.proofs.Common.{◌≡◌, ◌∙◌, ℕ, ◌+◌, true, false, Bool, List, [], ◌∷◌, ◌++◌, Option, Some, None, Result, Ok, Err, ap, arith, length, refl, sym, subst}
use Rattle.std.specs.Prelude.{codes, if◌then◌else◌}
use Rattle.std.specs.Str.{bytes_eq}
use Rattle.ga_pack.specs.Model.Text.{lines_of}
use Rattle.ga_debug.specs.declared.replay_error.ReplayError.{ReplayError}
use Rattle.ga_debug.specs.declared.replay_error.ReplayError.TheVariants.{BadProfile}
use Rattle.ga_debug.specs.Head.{Head, Loading, behind_profile, head_by, head_in, loaded_by, loading_by, up_to_go, with_line}
use Rattle.ga_debug.specs.Command.{words_of}
use Rattle.ga_debug.specs.Profile.{SESSION_PROFILE, profile_line}
use Rattle.ga_transcript.specs.Following.{Lines}

-- a head with other lines behind it
abbrev pub with_commands : Head → Lines → Head
with_commands head commands = record head { commands = commands }

-- the lines up to `go`, of which the first has this number
pub record Front (loading : Loading) (number : ℕ) (lines : Lines) (head : Head) : Type 0 where
  pub front : Lines
  pub is : lines ≡ front ++ head.commands
  pub size : number + length front ≡ head.line + 1
  pub others : (commands : Lines)
      → up_to_go loading number (front ++ commands) ≡ Ok (with_commands head commands)

at_go : (loading : Loading) (number : ℕ) (line : List ℕ) (lines : Lines)
    → bytes_eq line (codes "go") ≡ true → up_to_go loading number (line ∷ lines)
    ≡ Ok (record { loading = loading; source = []; line = number; commands = lines })
at_go loading number line lines e = rw (e) refl

before_go : (loading : Loading) (number : ℕ) (line : List ℕ) (lines : Lines)
    → bytes_eq line (codes "go") ≡ false
    → up_to_go loading number (line ∷ lines) ≡ with_line line (up_to_go loading (number + 1) lines)
before_go loading number line lines e = rw (e) refl

-- a line before others
front_more : (loading : Loading) (number : ℕ) (line : List ℕ) (lines : Lines) (head : Head)
    (found : Result Head ReplayError) → bytes_eq line (codes "go") ≡ false
    → up_to_go loading (number + 1) lines ≡ found → with_line line found ≡ Ok head → ((inner : Head)
    → up_to_go loading (number + 1) lines ≡ Ok inner → Front loading (number + 1) lines inner)
    → Front loading number (line ∷ lines) head
front_more loading number line lines head (Err fault) e is made ih = absurd (cc made)
front_more loading number line lines head (Ok inner) e is made ih =
    let f = ih inner is in
    let whole : record inner { source = line ++ 10 ∷ inner.source } ≡ head = cc made in
    subst (Front loading number (line ∷ lines)) whole (record {
      front = line ∷ f.front;
      is = ap (λ (ls : Lines). line ∷ ls) f.is;
      size = omega (arith, f.size);
      others = λ commands. before_go loading number line (f.front ++ commands) e
          ∙ ap (with_line line) (f.others commands);
    })

front_by : (loading : Loading) (number : ℕ) (line : List ℕ) (lines : Lines) (head : Head)
    (go : Bool) → bytes_eq line (codes "go") ≡ go → up_to_go loading number (line ∷ lines) ≡ Ok head
    → ((inner : Head) → up_to_go loading (number + 1) lines ≡ Ok inner
    → Front loading (number + 1) lines inner) → Front loading number (line ∷ lines) head
front_by loading number line lines head true e made ih =
    let whole : record { loading = loading; source = []; line = number; commands = lines } ≡ head =
    cc (sym (at_go loading number line lines e) ∙ made) in
    subst (Front loading number (line ∷ lines)) whole (record {
      front = line ∷ [];
      is = refl;
      size = omega arith;
      others = λ commands. at_go loading number line commands e;
    })
front_by loading number line lines head false e made ih =
    front_more loading number line lines head (up_to_go loading (number + 1) lines) e refl
    (sym (before_go loading number line lines e) ∙ made) ih

front_of : (loading : Loading) (number : ℕ) (lines : Lines) (head : Head)
    → up_to_go loading number lines ≡ Ok head → Front loading number lines head
front_of loading number [] head made = absurd (cc made)
front_of loading number (line ∷ lines) head made =
    front_by loading number line lines head (bytes_eq line (codes "go")) refl made
    (λ inner is. front_of loading (number + 1) lines inner is)

-- The same of a whole text.
pub record HeadFront (text : List ℕ) (head : Head) : Type 0 where
  pub first : List ℕ
  pub front : Lines
  pub is : lines_of text ≡ first ∷ (front ++ head.commands)
  pub size : 1 + length front ≡ head.line
  pub others : (other : List ℕ) (commands : Lines) → lines_of other ≡ first ∷ (front ++ commands)
      → head_in SESSION_PROFILE other ≡ Ok (with_commands head commands)

profile_by : (first : List ℕ) (lines : Lines) (is_profile : Bool)
    → bytes_eq first (profile_line SESSION_PROFILE) ≡ is_profile → (head : Head)
    → head_by SESSION_PROFILE (first ∷ lines) ≡ Ok head
    → (bytes_eq first (profile_line SESSION_PROFILE) ≡ true) × (behind_profile lines ≡ Ok head)
profile_by first lines true e head made =
    (e, sym (ap (λ b. if b then behind_profile lines else Err BadProfile) e) ∙ made)
profile_by first lines false e head made =
    absurd (cc (sym (ap (λ b. if b then behind_profile lines else Err BadProfile) e) ∙ made))

loaded_front : (line : List ℕ) (lines : Lines) (head : Head) (loading : Option Loading)
    → loading_by (words_of line) ≡ loading → loaded_by loading lines ≡ Ok head
    → (loading : Loading) × (loading_by (words_of line) ≡ Some loading) × Front loading 3 lines head
loaded_front line lines head None is made = absurd (cc made)
loaded_front line lines head (Some loading) is made =
    (loading, is, front_of loading 3 lines head made)

behind_first : (first : List ℕ) (lines : Lines) (head : Head)
    → head_by SESSION_PROFILE (first ∷ lines) ≡ Ok head → (front : Lines)
    × (lines ≡ front ++ head.commands) × (1 + length front ≡ head.line) × ((commands : Lines)
    → head_by SESSION_PROFILE (first ∷ (front ++ commands)) ≡ Ok (with_commands head commands))
behind_first first [] head made =
    absurd
    (cc (profile_by first [] (bytes_eq first (profile_line SESSION_PROFILE)) refl head made).1)
behind_first first (line ∷ lines) head made =
    let p = profile_by first
    (line ∷ lines) (bytes_eq first (profile_line SESSION_PROFILE)) refl head made in
    let (loading, is, f) = loaded_front line lines head (loading_by (words_of line)) refl p.1 in (
      line ∷ f.front,
      ap (λ (ls : Lines). line ∷ ls) f.is,
      omega (arith, f.size),
      λ commands.
          ap (λ b. if b then behind_profile (line ∷ (f.front ++ commands)) else Err BadProfile) p.0
          ∙ ap (λ o. loaded_by o (f.front ++ commands)) is ∙ f.others commands,
    )

front_by_lines : (text : List ℕ) (lines : Lines) (head : Head) → lines_of text ≡ lines
    → head_by SESSION_PROFILE lines ≡ Ok head → HeadFront text head
unfolding head_in
front_by_lines text [] head cut made = absurd (cc made)
front_by_lines text (first ∷ lines) head cut made =
    let (front, is, size, others) = behind_first first lines head made in
    record {
      first = first;
      front = front;
      is = cut ∙ ap (λ (ls : Lines). first ∷ ls) is;
      size = size;
      others = λ other commands cut. ap (head_by SESSION_PROFILE) cut ∙ others commands;
    }

pub head_front : (text : List ℕ) (head : Head) → head_in SESSION_PROFILE text ≡ Ok head
    → HeadFront text head
unfolding head_in
head_front text head made = front_by_lines text (lines_of text) head refl made
