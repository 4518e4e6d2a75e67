-- A text has one listing of each node and one of all with some counts, or one first fault.
use Rattle.std.proofs.Common.{◌≡◌, ◌∙◌, ℕ, List, Ok, Err, sym, ap}
use Rattle.ga_pack.proofs.OneSource.{one_program}
use Rattle.ga_asm.specs.Image.{ImageView}
use Rattle.ga_asm.specs.Text.{AtMostOne, HasImages}
use Rattle.ga_asm.proofs.OneAnswer.{one_answer}
use Rattle.ga_counts.specs.declared.word_counts.WordCounts.{WordCounts}
use Rattle.ga_counts.specs.Listing.{AreCountedSectionsOf, IsCountedListingOf, listing_of, sections_from}

same_images : (text : List ℕ) (one other : List (ℕ × ImageView)) → HasImages text one
    → HasImages text other → one ≡ other
same_images text one other p q =
    let same : Ok one ≡ Ok other = one_answer text (Ok one) (Ok other) p q in cc

pub one_section_list : (text : List ℕ) (before : ℕ) (counts : List WordCounts)
    → AtMostOne (AreCountedSectionsOf text before counts)
one_section_list text before counts (Ok one) (Ok other) p q =
    let program = one_program text q.images_are.program p.images_are.program q.images_are.program_is
    p.images_are.program_is in
    let images = same_images text p.images q.images p.images_are q.images_are in
    ap Ok (p.sections_are
    ∙ ap (λ l. sections_from counts before l p.images 0 p.images) (sym program)
    ∙ ap (λ all. sections_from counts before q.images_are.program all 0 all) images
    ∙ sym q.sections_are)
one_section_list text before counts (Ok one) (Err fault) p q =
    absurd (let none : Ok p.images
    ≡ Err fault = one_answer text (Ok p.images) (Err fault) p.images_are q in cc)
one_section_list text before counts (Err fault) (Ok other) p q =
    absurd (let none : Err fault
    ≡ Ok q.images = one_answer text (Err fault) (Ok q.images) p q.images_are in cc)
one_section_list text before counts (Err one) (Err other) p q =
    let same : Err one ≡ Err other = one_answer text (Err one) (Err other) p q in cc

pub one_listing : (text : List ℕ) (before : ℕ) (counts : List WordCounts)
    → AtMostOne (IsCountedListingOf text before counts)
one_listing text before counts (Ok one) (Ok other) p q =
    let same : Ok p.sections ≡ Ok q.sections =
    one_section_list text before counts (Ok p.sections) (Ok q.sections) p.sections_are
    q.sections_are in
    let sections : p.sections ≡ q.sections = cc in
    ap Ok (p.listing_is ∙ ap listing_of sections ∙ sym q.listing_is)
one_listing text before counts (Ok one) (Err fault) p q =
    absurd (let none : Ok p.sections
    ≡ Err fault = one_section_list text before counts (Ok p.sections) (Err fault) p.sections_are q
    in cc)
one_listing text before counts (Err fault) (Ok other) p q =
    absurd (let none : Err fault
    ≡ Ok q.sections = one_section_list text before counts (Err fault) (Ok q.sections) p
    q.sections_are in cc)
one_listing text before counts (Err one) (Err other) p q =
    let same : Err one ≡ Err other = one_section_list text before counts (Err one) (Err other) p q
    in cc
