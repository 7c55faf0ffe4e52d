-- Bytes that were appended one piece after another.
use Rattle.std.proofs.Common.{ℕ, List, [], ◌++◌, Option, Some, None, sym, ap, ◌∙◌, append_assoc}
use Rattle.edge_traits.specs.Sink.{Appends}
use Rattle.std.proofs.lemmas.List.{append-nil}

-- nothing was appended
pub Appends-nothing : (told : Option (List ℕ)) → Appends told told []
Appends-nothing None = tt
Appends-nothing (Some bytes) = sym (append-nil bytes)

-- one piece, and then another
pub Appends-append : (old mid new : Option (List ℕ)) (prefix piece : List ℕ)
    → Appends old mid prefix → Appends mid new piece → Appends old new (prefix ++ piece)
Appends-append None None None prefix piece f p = tt
Appends-append None None (Some new) prefix piece f p = absurd p
Appends-append None (Some mid) new prefix piece f p = absurd f
Appends-append (Some old) None new prefix piece f p = absurd f
Appends-append (Some old) (Some mid) None prefix piece f p = absurd p
Appends-append (Some old) (Some mid) (Some new) prefix piece f p =
    p ∙ ap (λ bytes. bytes ++ piece) f ∙ append_assoc old prefix piece
