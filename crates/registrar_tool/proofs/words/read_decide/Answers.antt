use Rattle.std.proofs.Common.{◌≡◌, [], ◌∷◌, map, codes, string_bytes, sym, ◌∙◌, ap}
use Rattle.std.proofs.lemmas.Bool.{not-false}
use Rattle.std.proofs.lemmas.Slice.Eq.{bytes_eq-Decides}
use Rattle.registrar_tool.proofs.WordsLemmas.{four, IsDecide-found, IsDecide-none}
use Rattle.registrar_tool.proofs.words.read_decide.Goals as goal

-- the words, as their bytes
words_are : (c : goal.After-read_settings)
    → map string_bytes c.args.words.now ≡ codes "decide" ∷ c.as_str-2.result.now ∷ c.as_str-3.result.now ∷ c.as_str-4.result.now ∷ []
words_are c =
    let items = four c.args.words.now c.command-item.result c.first-item.result c.count-item.result c.hours-item.result
    c.in-len4.len_at_least c.in-len4.len_below c.command-item.is c.first-item.is c.count-item.is c.hours-item.is in
    let command : c.as_str.result.now ≡ codes "decide"
    = (bytes_eq-Decides c.as_str.result.now (codes "decide")).0 (not-false _ (sym c.ne.ensures ∙ c.if-ne.false)) in
    ap (map string_bytes) items ∙ cc

pub returns-clause-found : goal.returns-clause-found
returns-clause-found c = IsDecide-found _ _ _ _ (words_are c) c.read_settings.result c.read_settings.ensures.found

pub returns-clause-none : goal.returns-clause-none
returns-clause-none c = IsDecide-none _ _ _ _ (words_are c) c.read_settings.result c.read_settings.ensures.none
