use Rattle.std.proofs.Common.{◌≡◌, take}
use Rattle.journal_text.proofs.settings.SettingsClone.clone.Given as goal

abbrev pub invariant-loop-id : goal.invariant-loop-id
invariant-loop-id l = l.refused.items ≡ take l.id-index l.ids
