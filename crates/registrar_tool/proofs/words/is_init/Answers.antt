use Rattle.std.proofs.Common.{◌≡◌, ℕ, List, [], ◌∷◌, map, codes, string_bytes, sym, ◌∙◌, ap}
use Rattle.std.proofs.lemmas.Slice.Eq.{bytes_eq-Decides}
use Rattle.registrar_tool.proofs.WordsLemmas.{one}
use Rattle.registrar_tool.proofs.words.is_init.Goals as goal

pub returns : goal.returns
returns c =
    let command = c.as_str.result.now in
    let items = one c.args.words.now c.command-item.result c.in-len1.len_at_least c.in-len1.len_below c.command-item.is in
    let words : map string_bytes c.args.words.now ≡ command ∷ [] = ap (map string_bytes) items ∙ cc in
    let same = bytes_eq-Decides command (codes "init") in (
      λ found. words ∙ ap (λ (word : List ℕ). word ∷ []) (same.0 (sym c.eq.ensures ∙ found)),
      λ is. c.eq.ensures ∙ same.1 (let items : command ∷ [] ≡ codes "init" ∷ [] = sym words ∙ is in cc items),
    )
