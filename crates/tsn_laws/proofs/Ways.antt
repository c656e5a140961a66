-- Which ways are whole, and that a run where no link has failed is a run of bridges.
use Rattle.std.proofs.Common.{ℕ, ◌<◌, List, [], ◌∷◌, length, slice_index, Contains, sym, subst, inl, inr}
use Rattle.std.proofs.lemmas.List.Elements.{All-nil, All-cons, All-contains}
use Rattle.tsn_model.specs.Network.{Network, IsRoute, IsSent, Continues}
use Rattle.tsn_model.specs.Bridge.{LinkGates, BridgeRun, IsBridgeRun}
use Rattle.tsn_model.specs.Failures.{IsBridgeRunWithout, IsIntact}
use Rattle.tsn_model.proofs.Lists.{Contains-cons_cases, Contains-nil, Contains-head, Contains-more}
use Rattle.tsn_model.proofs.Branches.{continued_once, sent_alone}

module _ (network : Network) (failed route : List ℕ) (is : IsRoute network route) where
  abbrev Works : ℕ → Type 0
  Works k = Contains failed (slice_index route k) → ⊥

  pub last_works : (k : ℕ) → IsIntact failed network route k → Works k
  last_works k intact = All-contains Works intact.way k intact.whole intact.has

  pub sent_whole : (k : ℕ) → IsSent network route k → Works k → IsIntact failed network route k
  sent_whole k sent works = record {
    way = k ∷ [];
    has = Contains-head k [];
    closed = λ j next below among continues. elim (Contains-cons_cases k [] next among) [
      | inl same ↦ absurd (sent_alone network route is j k below (subst (Continues network route j) (sym same) continues) sent)
      | inr none ↦ absurd (Contains-nil next none)
    ];
    whole = All-cons Works k [] works (All-nil Works);
  }

  pub before_whole : (j k : ℕ) → j < length route → Continues network route j k → IsIntact failed network route k → IsIntact failed network route j
  before_whole j k below continues intact = record {
    way = intact.way;
    has = intact.closed j k below intact.has continues;
    closed = intact.closed;
    whole = intact.whole;
  }

  pub next_whole : (j k : ℕ) → j < length route → k < length route → Continues network route j k → IsIntact failed network route j → Works k
      → IsIntact failed network route k
  next_whole j k j_below k_below continues intact works = record {
    way = k ∷ intact.way;
    has = Contains-head k intact.way;
    closed = λ i next below among follows. elim (Contains-cons_cases k intact.way next among) [
      | inl same ↦
          let one = continued_once network route is i j k below j_below k_below (subst (Continues network route i) (sym same) follows) continues in
          Contains-more k intact.way i (subst (Contains intact.way) (sym one) intact.has)
      | inr later ↦ Contains-more k intact.way i (intact.closed i next below later follows)
    ];
    whole = All-cons Works k intact.way works intact.whole;
  }

pub run_of : (network : Network) (offsets : List ℕ) (gates : List LinkGates) (cycles : ℕ) (run : BridgeRun)
    → IsBridgeRunWithout [] network offsets gates cycles run → IsBridgeRun network offsets gates cycles run
run_of network offsets gates cycles run is = record {
  wires_shared = is.wires_shared;
  uses_begin = is.uses_begin;
  background_length = is.background_length;
  background_open = is.background_open;
  passages = is.passages;
  once = is.once;
  ready = is.ready;
  fits = is.fits;
  waits = λ passage ready t is_passage is_ready after before not_started.
      is.waits passage ready t is_passage (λ failed. Contains-nil _ failed) is_ready after before not_started;
}
