-- Two outputs of one job for one program are equal.
use Rattle.std.proofs.Common.{◌≡◌, ◌∙◌, ℕ, Bool, true, false, List, sym}
use Rattle.ga_asm.specs.Text.{AtMostOne}
use Rattle.ga_list.proofs.OneListing.{one_labels, one_listing}
use Rattle.ga_input.proofs.OneInput.{alike, one_images, one_in, one_made}
use Rattle.ga_input.specs.Source.{IsImagesIn}
use Rattle.ga_input.specs.TextFault.{shown_fault}
use Rattle.ga_input.specs.Tree.{tree_in}
use Rattle.ga_programs.specs.Asm.{IsAsmOutput, images_text}
use Rattle.ga_programs.specs.Boot.{IsBootOutput, text_by}
use Rattle.ga_programs.specs.Listing.{IsListOutput, IsListed}

pub one_asm_output : (input : List ℕ) → AtMostOne (IsAsmOutput input)
one_asm_output input = one_made (IsImagesIn input) images_text (one_images input)

pub one_boot_output : (route input : List ℕ) → AtMostOne (IsBootOutput route input)
one_boot_output route input =
    alike (λ images right. text_by images (tree_in route) ≡ right) (λ one other. one ≡ other)
    (λ one other e. e) (λ images one other p q. sym p ∙ q) input

one_listed : (labels : Bool) (text : List ℕ) → AtMostOne (IsListed labels text)
one_listed true text = one_labels text
one_listed false text = one_listing text

pub one_list_output : (labels : Bool) (input : List ℕ) → AtMostOne (IsListOutput labels input)
one_list_output labels input = one_in shown_fault (IsListed labels) (one_listed labels) input
