use Rattle.std.proofs.Common.{◌∙◌, [], ◌++◌, ap, append-nil, codes, map, string_bytes, sym}
use Rattle.ga_counts.specs.Listing.{section_view}
use Rattle.ga_dump.proofs.Lines.{parts}
use Rattle.ga_report.specs.Listing.{listing_part}
use Rattle.ga_report.specs.Page.{listing_column}
use Rattle.ga_report.proofs.page.push_listing_column.Goals as goal

pub returns : goal.returns
unfolding listing_column
returns c =
    let opened = string_bytes c.push_str.new.self in
    let listed = string_bytes c.push_listing.new.text in
    let listing = listing_part (map section_view c.args.listing.now) in
    let closing = codes "</div>\n" in
    let new = string_bytes c.push_str-2.new.self in
    parts (string_bytes c.args.text.now) opened new (codes "<div class='beside'><div>\n")
    (listing ++ (closing ++ [])) c.in_ok-push_str.ensures.bytes
    (parts opened listed new listing (closing ++ []) c.in_ok-push_listing.ensures
    (c.in_ok-push_str-2.ensures.bytes ∙ ap (λ end. listed ++ end) (sym (append-nil closing))))
