-- The next node of a certificate that is spelled.
use Rattle.std.proofs.Common.{pos, ◌≡◌, ◌+◌, ◌<◌, ℕ, List, ◌∷◌, drop, length, get_or, Option, sym, ap, ◌∙◌, subst}
use Rattle.std.specs.List.{slice_index_or}
use Rattle.std.proofs.lemmas.List.{drop_more, get_or_default}
use Rattle.std.proofs.lemmas.List.Elements.{All-head}
use Rattle.tsn_model.specs.Network.{Network}
use Rattle.tsn_model.specs.Certificate.{Node}
use Rattle.tsn_timing.specs.Solution.{Solution}
use Rattle.tsn_model.specs.Order.{node_of}
use Rattle.tsn_conflict.specs.Outcome.{outcome_of}
use Rattle.tsn_conflict.specs.declared.outcome.Look.TheVariants.{Split}
use Rattle.tsn_book.specs.declared.log.Settled.{Settled}
use Rattle.tsn_book.specs.Book.{planned, HasTie}
use Rattle.tsn_book.specs.Spelling.{left_nodes, numbered_node, IsSpelling}
use Rattle.tsn_book.proofs.Preorder.{Taken, spelling_goes_on, nodes_go_on}

nothing : Settled
nothing = record { teller = 0; place = 0; look = Split (record { left = 0; right = 0; link = 0; lag = pos 0 }) }

module _ {network : Network} {plan : Option Solution} {before : List Settled} (order : List ℕ) (given number : ℕ)
    (known : IsSpelling network plan before (drop given order)) (low : given < length order) (read : number ≡ get_or order given number) where
  this : drop given order ≡ number ∷ drop (given + 1) order
  this = drop_more order given number low ∙ ap (λ n. n ∷ drop (given + 1) order) (sym read)

  now : IsSpelling network plan before (number ∷ drop (given + 1) order)
  now = subst (IsSpelling network plan before) this known

  pub next_within : number < length before
  next_within = All-head (λ n. n < length before) number (drop (given + 1) order) now.within

  pub next_tie : (d : Settled) → HasTie network plan (outcome_of (slice_index_or before number d).look)
  next_tie = All-head (λ n. (d : Settled) → HasTie network plan (outcome_of (slice_index_or before n d).look)) number (drop (given + 1) order) now.ties

  module _ {after : List Settled} (taken : Taken before after number) where
    pub next_known : IsSpelling network plan after (drop (given + 1) order)
    next_known = spelling_goes_on network plan before after number (drop (given + 1) order) now taken

    pub next_nodes : (node : Node) → ((d : Settled) → node ≡ node_of network (planned plan) (outcome_of (slice_index_or before number d).look))
        → left_nodes network plan before (drop given order) ≡ node ∷ left_nodes network plan after (drop (given + 1) order)
    next_nodes node is = ap (left_nodes network plan before) this ∙ nodes_go_on network plan before after number (drop (given + 1) order) now taken node is

    -- where its node is given to nobody
    pub next_left : left_nodes network plan after (drop (given + 1) order) ≡ drop 1 (left_nodes network plan before (drop given order))
    unfolding numbered_node nothing
    next_left = ap (drop 1) (sym (next_nodes (numbered_node network plan before number)
        (λ d. ap (λ (event : Settled). node_of network (planned plan) (outcome_of event.look)) (get_or_default before number nothing d next_within))))
