-- The style sheet of a page.
use Rattle.std.specs.Prelude.{ℕ, List, [], ◌∷◌, codes}
use Rattle.std.specs.List.{concat}

-- the begin of the style sheet, with its colours
unfoldable pub COLOURS : List ℕ
COLOURS =
    concat (codes "</title><style>\n"
    ∷ codes ":root{color-scheme:light dark;--page:#fdfdfb;--ink:#1b1b1a;\n"
    ∷ codes "--soft:#62625d;--rule:#d9d8d2;--work:#0068a8;--word:#e69f00;\n"
    ∷ codes "--reader:#c2649a;--boot:#b9b9b2;--spin:#8a8a84;--stop:#b3261e}\n"
    ∷ codes "@media(prefers-color-scheme:dark){:root{--page:#161716;--ink:#e9e8e3;\n"
    ∷ codes "--soft:#a3a29b;--rule:#373835;--work:#4ba6e0;--word:#eeb23c;\n"
    ∷ codes "--reader:#dd8cbb;--boot:#5c5d58;--spin:#8d8d86;--stop:#ff8f7f}}\n" ∷ [])

-- type and layout
unfoldable pub LAYOUT : List ℕ
LAYOUT =
    concat (codes "body{margin:0;background:var(--page);color:var(--ink);\n"
    ∷ codes "font:15px/1.5 system-ui,sans-serif}\n"
    ∷ codes "main{max-width:1360px;margin:0 auto;padding:28px clamp(14px,3vw,44px) 60px}\n"
    ∷ codes "h1{font-size:clamp(20px,2.1vw,27px);line-height:1.28;max-width:54ch;margin:0 0 8px}\n"
    ∷ codes "h2{font-size:17px;margin:38px 0 6px}\n"
    ∷ codes "p{margin:0 0 8px;max-width:74ch;color:var(--soft)}\n"
    ∷ codes "pre{margin:0;overflow-x:auto;scrollbar-width:thin;background:\n"
    ∷ codes "linear-gradient(to right,var(--page) 40%,transparent) 0/32px 100% no-repeat local,\n"
    ∷ codes "linear-gradient(to left,var(--page) 40%,transparent) 100%/32px 100% no-repeat local,\n"
    ∷ codes "linear-gradient(to right,var(--rule),transparent) 0/16px 100% no-repeat,\n"
    ∷ codes "linear-gradient(to left,var(--rule),transparent) 100%/16px 100% no-repeat}\n"
    ∷ codes "pre,summary{font:12px/1.45 ui-monospace,Menlo,Consolas,monospace}\n"
    ∷ codes "summary{padding:4px 0;cursor:pointer}\n"
    ∷ codes "@media screen and (min-width:1280px){.beside{display:grid;gap:28px;\n"
    ∷ codes "grid-template-columns:minmax(0,670px) minmax(0,1fr)}\n"
    ∷ codes ".source{position:sticky;top:0;max-height:100vh}}\n" ∷ [])

-- the rows of the timeline, its scale and its key
unfoldable pub ROWS : List ℕ
ROWS =
    concat (codes ".row,.scale,.key{font-size:13px;font-variant-numeric:tabular-nums}\n"
    ∷ codes ".row,.key{display:flex}\n"
    ∷ codes ".row{height:24px;line-height:24px}\n"
    ∷ codes ".row b{flex:0 0 3.6em;font-weight:400;white-space:nowrap}\n"
    ∷ codes ".row svg{flex:1;min-width:0;height:24px}\n"
    ∷ codes ".scale{position:relative;height:26px;margin-left:3.6em;\n"
    ∷ codes "border-top:1px solid var(--soft)}\n"
    ∷ codes ".scale span{position:absolute;top:3px;transform:translateX(-50%)}\n"
    ∷ codes ".scale span::before{content:'';position:absolute;left:50%;top:-3px;height:4px;\n"
    ∷ codes "border-left:1px solid var(--soft)}\n"
    ∷ codes ".scale span:first-child{transform:none}.scale span:first-child::before{left:0}\n"
    ∷ codes ".scale span:last-child{transform:translateX(-100%)}\n"
    ∷ codes ".scale span:last-child::before{left:auto;right:0}\n"
    ∷ codes ".scale::before{content:'turn';position:absolute;left:-3.6em;top:3px}\n"
    ∷ codes "@media(max-width:640px){.scale span:nth-child(even){display:none}}\n"
    ∷ codes ".key{flex-wrap:wrap;gap:4px 20px;padding:0;list-style:none}\n"
    ∷ codes ".key svg{width:26px;height:24px;margin-right:6px;vertical-align:middle}\n" ∷ [])

-- the lines of what a node does
unfoldable pub LINES : List ℕ
LINES =
    concat (codes "path{fill:none;vector-effect:non-scaling-stroke}\n"
    ∷ codes ".works{stroke:var(--work);stroke-width:14}\n"
    ∷ codes ".word{stroke:var(--word);stroke-width:4}\n"
    ∷ codes ".reader{stroke:var(--reader);stroke-width:4}\n"
    ∷ codes ".spins{stroke:var(--spin);stroke-width:8;stroke-dasharray:2 3}\n"
    ∷ codes ".stopped{stroke:var(--stop);stroke-width:2}\n"
    ∷ codes ".boots{stroke:var(--boot);stroke-width:6}\n"
    ∷ codes ".idle{stroke:var(--rule);stroke-width:1}\n"
    ∷ codes ".over{position:relative}\n"
    ∷ codes ".transfers{position:absolute;top:0;left:3.6em;width:calc(100% - 3.6em);height:100%;\n"
    ∷ codes "font-size:13px;pointer-events:none}\n"
    ∷ codes ".transfer{stroke:var(--ink);stroke-width:1;pointer-events:stroke}\n"
    ∷ codes ".path{stroke:var(--ink);stroke-width:2}\n" ∷ [])

-- the picture of the chip, and the end of the style sheet
unfoldable pub CHIP : List ℕ
CHIP =
    concat (codes ".chip{overflow-x:auto}\n"
    ∷ codes ".chip svg{display:block;width:100%;min-width:720px;max-width:1100px}\n"
    ∷ codes ".chip rect{fill:none;stroke:var(--rule)}.chip path{vector-effect:none}\n"
    ∷ codes ".chip .works{stroke-width:32}.chip .works+text{fill:var(--page)}\n"
    ∷ codes ".chip text{fill:var(--ink);font-size:13px;text-anchor:middle}\n"
    ∷ codes ".chip rect+text{fill:var(--soft)}.chip .arrow{stroke:var(--ink);stroke-width:2}\n"
    ∷ codes "@media(max-width:640px){.chip svg{min-width:0}.chip text{font-size:19px}}\n"
    ∷ codes "</style></head><body><main><h1>" ∷ [])

-- All of it, with what stands between the title and the headline.
unfoldable pub STYLE : List ℕ
STYLE = concat (COLOURS ∷ LAYOUT ∷ ROWS ∷ LINES ∷ CHIP ∷ [])
