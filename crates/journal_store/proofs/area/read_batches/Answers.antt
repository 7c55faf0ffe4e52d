-- One batch more each turn.
use Rattle.std.proofs.Common.{◌≡◌, ◌-◌, ◌∷◌, ℕ, List, [], length, take, drop, ap, sym, subst, ◌∙◌, arith}
use Rattle.std.proofs.lemmas.List.{take_all, length-drop}
use Rattle.journal_text.specs.declared.entry.Entry.{Entry}
use Rattle.journal_store.specs.Area.{first_header, IsRead}
use Rattle.journal_store.proofs.Bodies.{begun, area_more, header_whole}
use Rattle.journal_store.proofs.area.read_batches.Goals as goal

pub slice_bounds-rest-count : goal.slice_bounds-rest-count
slice_bounds-rest-count c = header_whole c.args.area.now c.requires

pub slice_bounds-rest-start : goal.slice_bounds-rest-start
slice_bounds-rest-start c = header_whole c.args.area.now c.requires

pub loop-gate-init : goal.loop-gate-init
loop-gate-init c =
    let area = c.args.area.now in
    let long = header_whole area c.requires in
    let whole : take (length area - 42) (drop 42 area) ≡ drop 42 area = take_all (length area - 42) (drop 42 area) (omega (arith, length-drop 42 area)) in
    let end : 42 ≡ length area - length (take (length area - 42) (drop 42 area)) = omega (arith, ap length whole, length-drop 42 area, long) in
    let first = subst (λ (n : ℕ). IsRead first_header n [] area (drop 42 area)) end (begun area c.requires) in
    let rest = subst (λ (xs : List ℕ). IsRead first_header (length area - length (take (length area - 42) (drop 42 area))) [] area xs) (sym whole) first in
    record { read = subst (λ (log : List Entry). IsRead first_header (length area - length (take (length area - 42) (drop 42 area))) log area (take (length area - 42) (drop 42 area))) (sym c.new-log.ensures.items) rest }

pub loop-gate-preserved : goal.loop-gate-preserved
loop-gate-preserved c =
    let read = c.in_ok-read_entries.ensures.read in
    let more = area_more c.args.area.now c.loop-gate.log.items c.loop-gate.rest.now c.in-Some.bytes.now c.in-Some-split_body.body.now c.in-Some-split_body.behind.now read.0 c.loop-gate.invariant.read (c.in-Some.ensures.cases.0 ∙ ap (λ (gate : ℕ). gate ∷ c.in-Some.bytes.now) c.if-gate-ne1.false) c.in-Some-split_body.ensures read.1 read.2 in
    record { read = subst (λ (log : List Entry). IsRead first_header (length c.args.area.now - length c.in-Some-split_body.behind.now) log c.args.area.now c.in-Some-split_body.behind.now) (sym read.3) more }
