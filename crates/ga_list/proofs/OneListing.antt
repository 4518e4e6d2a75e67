-- A text has one listing and one list of labels, or one first fault.
use Rattle.std.proofs.Common.{◌≡◌, ◌∙◌, ℕ, List, Ok, Err, sym, ap}
use Rattle.ga_pack.proofs.OneSource.{one_program}
use Rattle.ga_asm.specs.Image.{ImageView}
use Rattle.ga_asm.specs.Text.{AtMostOne, HasImages}
use Rattle.ga_asm.proofs.OneAnswer.{one_answer}
use Rattle.ga_list.specs.Labels.{AreLabelsOf, labels_of_images}
use Rattle.ga_list.specs.Listing.{IsListingOf, IsNamedListingOf, listing_from}
use Rattle.ga_list.specs.LineNames.{LineNames, line_number}

same_images : (text : List ℕ) (one other : List (ℕ × ImageView)) → HasImages text one
    → HasImages text other → one ≡ other
same_images text one other p q =
    let same : Ok one ≡ Ok other = one_answer text (Ok one) (Ok other) p q in cc

pub one_named_listing : (names : LineNames) (text : List ℕ)
    → AtMostOne (IsNamedListingOf names text)
one_named_listing names text (Ok one) (Ok other) p q =
    let program = one_program text q.images_are.program p.images_are.program q.images_are.program_is
    p.images_are.program_is in
    let images = same_images text p.images q.images p.images_are q.images_are in
    ap Ok (p.listing_is ∙ ap (λ l. listing_from names l 0 p.images) (sym program)
    ∙ ap (listing_from names q.images_are.program 0) images ∙ sym q.listing_is)
one_named_listing names text (Ok one) (Err fault) p q =
    absurd (let none : Ok p.images
    ≡ Err fault = one_answer text (Ok p.images) (Err fault) p.images_are q in cc)
one_named_listing names text (Err fault) (Ok other) p q =
    absurd (let none : Err fault
    ≡ Ok q.images = one_answer text (Err fault) (Ok q.images) p q.images_are in cc)
one_named_listing names text (Err one) (Err other) p q =
    let same : Err one ≡ Err other = one_answer text (Err one) (Err other) p q in cc

pub one_listing : (text : List ℕ) → AtMostOne (IsListingOf text)
one_listing text = one_named_listing line_number text

pub one_labels : (text : List ℕ) → AtMostOne (AreLabelsOf text)
one_labels text (Ok one) (Ok other) p q =
    ap Ok (p.labels_are ∙ ap labels_of_images
    (same_images text p.images q.images p.images_are q.images_are) ∙ sym q.labels_are)
one_labels text (Ok one) (Err fault) p q =
    absurd (let none : Ok p.images
    ≡ Err fault = one_answer text (Ok p.images) (Err fault) p.images_are q in cc)
one_labels text (Err fault) (Ok other) p q =
    absurd (let none : Err fault
    ≡ Ok q.images = one_answer text (Err fault) (Ok q.images) p q.images_are in cc)
one_labels text (Err one) (Err other) p q =
    let same : Err one ≡ Err other = one_answer text (Err one) (Err other) p q in cc
