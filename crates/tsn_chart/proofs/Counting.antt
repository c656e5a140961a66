-- How many frames the streams send in a cycle.
use Rattle.std.proofs.Common.{◌≡◌, ℕ, ◌+◌, ◌*◌, ◌≤◌, ◌<◌, [], ◌∷◌, ◌++◌, take, sum_by, is_some, ap, ◌∙◌, arith}
use Rattle.std.specs.List.{range_with_len}
use Rattle.std.proofs.lemmas.Bool.{cond_both}
use Rattle.std.proofs.lemmas.List.Sums.{sum_by_push, sum_by_more, sum_by-take-le}
use Rattle.std.proofs.Math.Seq.{take-length}
use Rattle.tsn_model.specs.Network.{Network, Stream, IsWellFormed, stream_count, no_stream, stream_at, turns_of, burst_of, frame_count}
use Rattle.tsn_model.specs.Timing.{hop_on}
use Rattle.tsn_model.proofs.Lists.{range_more}
use Rattle.tsn_chart.specs.Shares.{frames_on, windows_on}

abbrev pub frames_in : Stream → ℕ
frames_in stream = stream.turns * stream.burst

module _ (network : Network) where
  -- so many are those of the first i streams
  abbrev pub frames_upto : ℕ → ℕ
  frames_upto i = sum_by frames_in (take i network.streams)

  pub upto-more : (i : ℕ) → i < stream_count network → frames_upto (i + 1) ≡ frames_upto i + turns_of network i * burst_of network i
  unfolding turns_of burst_of stream_at
  upto-more i below = sum_by_more frames_in network.streams i no_stream below

  pub upto-few : IsWellFormed network → (i : ℕ) → frames_upto i ≤ 65536
  unfolding frame_count
  upto-few formed i =
      let part = sum_by-take-le frames_in network.streams i in
      let few = formed.few_frames in
      omega arith

  pub upto_all : (i : ℕ) → i ≡ stream_count network → frames_upto i ≡ frame_count network
  unfolding frame_count
  upto_all i all = ap (sum_by frames_in) (ap (λ n. take n network.streams) all ∙ take-length network.streams)

  -- and so many of them on a link
  abbrev pub windows_upto : ℕ → ℕ → ℕ
  windows_upto link i = sum_by (frames_on network link) (range_with_len 0 i)

  pub windows-more : (link i : ℕ) → windows_upto link (i + 1) ≡ windows_upto link i + frames_on network link i
  windows-more link i =
      let range : range_with_len 0 (i + 1) ≡ range_with_len 0 i ++ i ∷ [] = range_more 0 i ∙ ap (λ n. range_with_len 0 i ++ n ∷ []) (omega arith) in
      ap (sum_by (frames_on network link)) range ∙ sum_by_push (frames_on network link) (range_with_len 0 i) i

  frames_on-le : (link i : ℕ) → frames_on network link i ≤ turns_of network i * burst_of network i
  unfolding frames_on
  frames_on-le link i =
      let all = turns_of network i * burst_of network i in
      cond_both (is_some (hop_on network i link)) all 0 (λ n. n ≤ all) (λ _. omega arith) (λ _. omega arith)

  -- one more stream
  pub windows-le : (link i windows : ℕ) → i < stream_count network → windows ≤ frames_upto i → windows + frames_on network link i ≤ frames_upto (i + 1)
  windows-le link i windows below few =
      let more = upto-more i below in
      let part = frames_on-le link i in
      omega arith

  pub windows_all : (link i : ℕ) → i ≡ stream_count network → windows_upto link i ≡ windows_on network link
  unfolding windows_on
  windows_all link i all = ap (windows_upto link) all
