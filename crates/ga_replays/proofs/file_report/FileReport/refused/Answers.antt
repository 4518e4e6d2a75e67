use Rattle.std.proofs.Common.{◌≡◌, ◌∙◌, ◌++◌, ap, codes, refl, string_bytes}
use Rattle.ga_replays.proofs.Reports.{four_pieces}
use Rattle.ga_replays.proofs.file_report.FileReport.refused.Goals as goal

pub returns : goal.returns
returns c =
    let fault = string_bytes c.in_ok-shown.shown in
    let name = string_bytes c.in_ok-name.name in
    let made : string_bytes c.in_ok-text.text ≡ name ++ (codes ": " ++ (fault ++ codes "\n")) =
    c.in_ok-text.ensures.ok in (
      refl,
      (
        fault,
        made ∙ four_pieces name (codes ": ") fault (codes "\n")
            ∙ ap (λ n. n ++ codes ": " ++ fault ++ codes "\n") c.in_ok-name.ensures,
      ),
    )
