-- What a proxy does with a message that was read, and its way back.
use Rattle.std.proofs.Common.{◌≡◌, ℕ, ◌+◌, ◌%◌, ◌^◌, ◌<◌, ◌≤◌, true, List, [], Result, Ok, Err, sym, ap, subst, ◌∙◌, arith, inl, inr}
use Rattle.std.specs.Prelude.{◌≢◌, IfOk, IfErr, OnErr}
use Rattle.edge_traits.specs.declared.names.Peer.{Peer}
use Rattle.coap_message.specs.Header.{Header}
use Rattle.coap_message.specs.Message.{Packet, IsMessage}
use Rattle.coap_message.proofs.MessageLemmas.{one_message}
use Rattle.proxy_token.specs.declared.fault.SealFault.{SealFault}
use Rattle.proxy_token.specs.declared.fault.SealFault.TheVariants as seal
use Rattle.proxy_token.specs.Token.{Client, IsToken, IsInTime, capped, end40}
use Rattle.proxy_token.specs.Sealing.{Sealing}
use Rattle.proxy_token.proofs.Tokens.{one_client, token_len}
use Rattle.join_proxy.specs.declared.bucket.Bucket.{Bucket}
use Rattle.join_proxy.specs.Tokens.{tokens_at, bucket_after}
use Rattle.join_proxy.specs.declared.fault.DownFault.{DownFault}
use Rattle.join_proxy.specs.declared.fault.DownFault.TheVariants.{NotCoap, NotAnswer, NotMine, Late}
use Rattle.join_proxy.specs.Pieces.{forwarded, returned, text_of, IsRead, IsRequest}
use Rattle.join_proxy.specs.State.{Proxying}
use Rattle.join_proxy.specs.Steps.{Fits, IsSentOn, IsSentBack, HasSameBody, IsKept, IsDownFault, IsDown}
use Rattle.join_proxy.specs.Laws.{RoundTrip}
use Rattle.join_proxy.proofs.Sending.{IsSpelled, sent_all, is_written}

-- a token that fits is sealed, where a counter is left
pub no_seal_fault : (r : Result (Unit {0}) SealFault) (f : SealFault) (len count : ℕ) → r ≡ Err f
    → ((n : ℕ) → (r ≡ Err (seal.TooLong n) → (n ≡ len) × (561 < n)) × ((n ≡ len) × (561 < n) → r ≡ Err (seal.TooLong n)))
    → ((n : ℕ) → (r ≡ Err (seal.Spent n) → (len ≤ 561) × (n ≡ count) × (n ≡ end40)) × ((len ≤ 561) × (n ≡ count) × (n ≡ end40) → r ≡ Err (seal.Spent n)))
    → len ≤ 561 → count ≢ end40 → ⊥
no_seal_fault r (seal.TooLong n) len count e long spent fits left = let h = (long n).0 e in omega (arith, h.0, h.1, fits)
no_seal_fault r (seal.Spent n) len count e long spent fits left = let h = (spent n).0 e in left (sym h.1 ∙ h.2)

-- ---- the request of `up`

pub sent_on : (old new : Proxying) (sealing : Sealing) (bucket : Bucket) (peer : Peer) (m : Packet) (size now mid : ℕ) (token slice out : List ℕ)
    → IsRead m → IsRequest m → Fits m → size ≤ tokens_at old.bucket now
    → IsToken old.sealing.key token (record { count = old.sealing.count; peer = peer; second = capped now; token = m.header.token })
    → slice ≡ token → mid ≡ old.mid → out ≡ text_of (forwarded mid slice m)
    → sealing ≡ record { key = old.sealing.key; count = old.sealing.count + 1 } → bucket ≡ bucket_after old.bucket now size
    → new ≡ record { sealing = sealing; bucket = bucket; mid = (old.mid + 1) % 2 ^ 16 }
    → IsSentOn old new peer m size now out
sent_on old new sealing bucket peer m size now mid token slice out read request fits enough is slice_is mid_is out_is sealing_is bucket_is new_is =
    let text : out ≡ text_of (forwarded old.mid token m) =
    out_is ∙ ap (λ (t : List ℕ). text_of (forwarded mid t m)) slice_is ∙ ap (λ (n : ℕ). text_of (forwarded n token m)) mid_is in
    record {
      token = token;
      is_request = request;
      fits = fits;
      enough = enough;
      is_token = is;
      out_is = text;
      is_sent = is_written m true old.mid token out read (omega (arith, token_len old.sealing.key token _ is, fits.0)) text;
      after = new_is
          ∙ ap (λ (s : Sealing). record { sealing = s; bucket = bucket; mid = (old.mid + 1) % 2 ^ 16 }) sealing_is
          ∙ ap (λ (b : Bucket). record { sealing = record { key = old.sealing.key; count = old.sealing.count + 1 }; bucket = b; mid = (old.mid + 1) % 2 ^ 16 }) bucket_is;
    }

-- ---- the answer of `down`

module _ (old new : Proxying) (bytes : List ℕ) (now : ℕ) (out : List ℕ) (m : Packet) (h : IsMessage bytes m) (s : IsSpelled bytes m) where
  same_body : (peer : Peer) (b : IsSentBack old new m now out peer) → HasSameBody bytes m out (returned old.mid b.client.token m).header
  same_body peer b =
      let head : Header = (returned old.mid b.client.token m).header in
      record {
        header = s.header;
        body = s.body;
        bytes_are = s.bytes_are;
        is_header = s.is_header;
        out_is = b.out_is
            ∙ ap (λ (os : List (ℕ × List ℕ)). text_of (record { header = head; options = os; payload = m.payload })) (sent_all m.options)
            ∙ s.under head;
      }

  pub down_of : (result : Result Peer DownFault) → IfOk result (IsSentBack old new m now out) → IfErr result (IsKept old m now)
      → OnErr result ((new ≡ old) × (out ≡ [])) → IsDown old new bytes now out result
  down_of (Ok peer) ok fault err = record { answer = m; is_answer = h; back = ok; same = same_body peer ok }
  down_of (Err f) ok fault err = (inr (m, h, fault), err.0, err.1)

-- ---- there and back

-- who asked
abbrev asker : Proxying → Peer → ℕ → Packet → Client
asker before peer now asked = record { count = before.sealing.count; peer = peer; second = capped now; token = asked.header.token }

pub round_trip : RoundTrip
round_trip before after peer size now out asked f old new reply m later back (Ok to) d key is code token time =
    let same : d.answer ≡ m = one_message reply d.answer m d.is_answer is in
    let client : Client = asker before peer now asked in
    let mine : IsToken old.sealing.key d.answer.header.token client =
    subst (λ (k : List ℕ). IsToken k d.answer.header.token client) (sym key)
    (subst (λ (t : List ℕ). IsToken before.sealing.key t client) (sym token ∙ ap (λ (p : Packet). p.header.token) (sym same)) f.is_token) in
    let who : d.back.client ≡ client = one_client old.sealing.key d.answer.header.token d.back.client client d.back.is_token mine in
    let to_is : to ≡ peer = d.back.to ∙ ap (λ (c : Client). c.peer) who in (
      ap (λ (p : Peer). Ok p) to_is,
      subst (λ (p : Packet). IsMessage back (returned old.mid asked.header.token p)) same
          (subst (λ (t : List ℕ). IsMessage back (returned old.mid t d.answer)) (ap (λ (c : Client). c.token) who) d.back.is_sent),
    )
round_trip before after peer size now out asked f old new reply m later back (Err fault) d key is code token time =
    absurd (refused fault d.0)
  where
    mine : (n : Packet) → IsMessage reply n → IsToken old.sealing.key n.header.token (asker before peer now asked)
    mine n h =
        let same : n ≡ m = one_message reply n m h is in
        subst (λ (k : List ℕ). IsToken k n.header.token (asker before peer now asked)) (sym key)
        (subst (λ (t : List ℕ). IsToken before.sealing.key t (asker before peer now asked)) (sym token ∙ ap (λ (p : Packet). p.header.token) (sym same)) f.is_token)

    kept : (x : DownFault) (n : Packet) → IsMessage reply n → IsKept old n later x → ⊥
    kept NotCoap n h k = k
    kept NotAnswer n h k = k (ap (λ (p : Packet). p.header.code) (one_message reply n m h is) ∙ code)
    kept NotMine n h k = k.1 (asker before peer now asked) (mine n h)
    kept (Late second) n h k =
        let who : k.1.0 ≡ (asker before peer now asked) = one_client old.sealing.key n.header.token k.1.0 (asker before peer now asked) k.1.1 (mine n h) in
        k.1.3 (subst (λ (c : Client). IsInTime c.second (capped later)) (sym who) time)

    refused : (x : DownFault) → IsDownFault old reply later x → ⊥
    refused x (inl h) = h.1 m is
    refused x (inr h) = kept x h.0 h.1 h.2
