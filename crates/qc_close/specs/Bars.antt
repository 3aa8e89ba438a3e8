-- inner: the tasks that bar cranes, as code sums them up.
use Rattle.std.specs.Prelude.{◌≡◌, ◌≢◌, ℕ, zero, suc, ◌+◌, ◌-◌, ◌*◌, ◌^◌, ◌<◌, ◌≤◌, min, Bool, true, false, ◌&&◌, ◌==◌, nat_lt, nat_le, int_le, is_none, if◌then◌else◌, List, [], ◌∷◌, filter, length, slice_index, slice_index_or, Option, None, Some, ℤ, pos, negsuc, ◌<ℤ◌}
use Rattle.std.specs.Int.{int_max, int_min}
use Rattle.std.specs.Option.{option_map_or}
use Rattle.qc_close.specs.Model.{Direction, Up, Down, Turn, crane_in, done_in, soonest, bays_up, own, InstanceView, Valid, bay_of, task_numbers, ticks_over}
use Rattle.qc_close.specs.Owns.{frame_by, own_of}
use Rattle.qc_close.specs.Spots.{AreSpots, spot_bay}
use Rattle.qc_close.specs.declared.barred.Place.{Place}
use Rattle.qc_close.specs.declared.bars.Bars.{Bars}
use Rattle.qc_close.specs.declared.bars.Table.{Table}
use Rattle.qc_close.specs.declared.bars.TheConstants.{NEVER}
use Rattle.qc_close.specs.declared.frames.Own.{Own}
use Rattle.qc_close.specs.declared.spots.Spots.{Spots}

-- when the first of these can start at the least
abbrev pub soonest_of : InstanceView → List (Option ℕ) → List ℕ → ℕ
soonest_of inst cranes [] = NEVER
soonest_of inst cranes (j ∷ js) = min (soonest inst cranes j) (soonest_of inst cranes js)

-- the lowest bay of these, or one above any, and the highest, or one below any
abbrev pub low_of : InstanceView → List ℕ → ℤ
low_of inst [] = pos 1000000
low_of inst (j ∷ js) = int_min (bay_of inst j) (low_of inst js)

abbrev pub high_of : InstanceView → List ℕ → ℤ
high_of inst [] = negsuc 999999
high_of inst (j ∷ js) = int_max (bay_of inst j) (high_of inst js)

-- these tasks, summed up
abbrev pub bars_of : InstanceView → List (Option ℕ) → List ℕ → Bars
bars_of inst cranes js = record {
  ticks = ticks_over inst js;
  soonest = soonest_of inst cranes js;
  low = low_of inst js;
  high = high_of inst js;
}

-- these and those
abbrev pub joined : Bars → Bars → Bars
joined one other = record {
  ticks = one.ticks + other.ticks;
  soonest = min one.soonest other.soonest;
  low = int_min one.low other.low;
  high = int_max one.high other.high;
}

-- these as a crane's own
abbrev pub own_in : Bars → Option Own
own_in b = if b.ticks == 0 then None else Some (record { ticks = b.ticks; low = b.low; high = b.high })

-- the same of own tasks
abbrev pub together : Option Own → Option Own → Option Own
together None others = others
together (Some one) None = Some one
together (Some one) (Some other) = Some (record {
  ticks = one.ticks + other.ticks;
  low = int_min one.low other.low;
  high = int_max one.high other.high;
})

-- task j has the crane of this row: rows count from the crane before the first
abbrev pub in_row : List (Option ℕ) → ℕ → ℕ → Bool
in_row cranes row j = option_map_or (λ v. v + 1 == row) (crane_in cranes j) false

-- and lies at spot k, before it, or from it on
abbrev pub row_at : List (Option ℕ) → List ℕ → ℕ → ℕ → ℕ → Bool
row_at cranes spots row k j = in_row cranes row j && (slice_index spots j == k)

abbrev pub row_before : List (Option ℕ) → List ℕ → ℕ → ℕ → ℕ → Bool
row_before cranes spots row k j = in_row cranes row j && nat_lt (slice_index spots j) k

abbrev pub row_from : List (Option ℕ) → List ℕ → ℕ → ℕ → ℕ → Bool
row_from cranes spots row k j = in_row cranes row j && nat_le k (slice_index spots j)

abbrev pub row_between : List (Option ℕ) → List ℕ → ℕ → ℕ → ℕ → ℕ → Bool
row_between cranes spots row from to j =
    in_row cranes row j && (nat_le from (slice_index spots j) && nat_lt (slice_index spots j) to)

-- no tasks
abbrev pub no_bars : Bars
no_bars = record { ticks = 0; soonest = NEVER; low = pos 1000000; high = negsuc 999999 }

-- what stands for tasks past the end of a list
abbrev pub past_bars : Bars
past_bars = record { ticks = 0; soonest = 0; low = pos 0; high = pos 0 }

-- each cell sums up the tasks of its row at its spot
pub record IsGrid (inst : InstanceView) (cranes : List (Option ℕ)) (spots : List ℕ) (grid : List Bars) : Type 0 where
  pub many : length grid ≡ 2400
  pub each : (row k : ℕ) → row < 10 → k < 240 → slice_index_or grid (240 * row + k) past_bars
      ≡ bars_of inst cranes (filter (row_at cranes spots row k) (task_numbers inst))

abbrev pub cell : List Bars → ℕ → ℕ → Bars
cell grid row k = slice_index_or grid (240 * row + k) past_bars

abbrev pub AreSmall : List Bars → Type 0
AreSmall grid = (i : ℕ) → (slice_index_or grid i past_bars).ticks < 2 ^ 38

-- the cells of a row before spot k, and so many from spot k on
abbrev pub sum_before : List Bars → ℕ → ℕ → Bars
sum_before grid row zero = no_bars
sum_before grid row (suc k) = joined (sum_before grid row k) (cell grid row k)

abbrev pub sum_from : List Bars → ℕ → ℕ → ℕ → Bars
sum_from grid row k zero = no_bars
sum_from grid row k (suc n) = joined (cell grid row k) (sum_from grid row (k + 1) n)

-- where it is known what tasks come to: in each row, in one only up to spot n, and in one only from it on
abbrev pub Everywhere : ℕ → ℕ → Type 0
Everywhere r k = Unit {0}

abbrev pub UpTo : ℕ → ℕ → ℕ → ℕ → Type 0
UpTo row n r k = r ≡ row → k ≤ n

abbrev pub From : ℕ → ℕ → ℕ → ℕ → Type 0
From row n r k = r ≡ row → n ≤ k

-- there the list says for each row what f is, up to count
pub record AreSums (known : ℕ → ℕ → Type 0) (f : ℕ → ℕ → Bars) (count : ℕ) (sums : List Bars) : Type 0 where
  pub many : length sums ≡ 2410
  pub each : (r k : ℕ) → r < 10 → k ≤ count → known r k → slice_index_or sums (241 * r + k) past_bars ≡ f r k

-- the table sums up what each crane has
pub record IsTable (inst : InstanceView) (cranes : List (Option ℕ)) (s : Spots) (t : Table) : Type 0 where
  pub soon : (j : ℕ) → soonest inst cranes j ≤ NEVER
  pub cells : IsGrid inst cranes s.of_task.items t.grid.items
  pub small : AreSmall t.grid.items
  pub befores : AreSums Everywhere (sum_before t.grid.items) (length s.bays.items) t.before.items
  pub froms : AreSums Everywhere (λ r k. sum_from t.grid.items r k (length s.bays.items - k)) (length s.bays.items) t.from.items

-- task j alone has another crane, or none: k, before or after
pub record Changes (olds cranes : List (Option ℕ)) (j k : ℕ) : Type 0 where
  pub others : (i : ℕ) → i ≢ j → crane_in olds i ≡ crane_in cranes i
  pub before : (v : ℕ) → crane_in olds j ≡ Some v → v ≡ k
  pub after : (v : ℕ) → crane_in cranes j ≡ Some v → v ≡ k

-- the tasks of a row before each spot, and from each spot on
abbrev pub bars_before : InstanceView → List (Option ℕ) → List ℕ → ℕ → ℕ → Bars
bars_before inst cranes spots row k = bars_of inst cranes (filter (row_before cranes spots row k) (task_numbers inst))

abbrev pub bars_from : InstanceView → List (Option ℕ) → List ℕ → ℕ → ℕ → Bars
bars_from inst cranes spots row k = bars_of inst cranes (filter (row_from cranes spots row k) (task_numbers inst))

-- the tasks that no crane has
abbrev pub left_of : InstanceView → List (Option ℕ) → List ℕ
left_of inst cranes = filter (λ j. is_none (crane_in cranes j)) (task_numbers inst)

-- own tasks that lie at spots from one to before another
abbrev pub own_between : InstanceView → List (Option ℕ) → List ℕ → ℕ → ℕ → ℕ → Option Own
own_between inst cranes spots w from to =
    own_of inst (filter (row_between cranes spots (w + 1) from to) (task_numbers inst))

-- whether own tasks lie from one bay to another
abbrev pub lie_in : Option Own → ℤ → ℤ → Bool
lie_in None low high = true
lie_in (Some own) low high = int_le low own.low && int_le own.high high

-- what both come to, of own tasks and of those that bar the crane
abbrev pub done_with : InstanceView → Turn → ℕ → Option Own → Bars → ℕ
done_with inst turn w None bars = 0
done_with inst turn w (Some own) bars =
    bars.ticks + min (frame_by inst turn w (Some own)).gone (bars.soonest + own.ticks + inst.travel * bays_up own.low own.high)

abbrev pub done_by : InstanceView → Turn → ℕ → Option Own → Bars → ℕ
done_by inst turn w own bars = if bars.ticks == 0 then 0 else done_with inst turn w own bars

-- what is known of a crane between its neighbours
pub record IsKnown (inst : InstanceView) (cranes : List (Option ℕ)) (s : Spots) (t : Table) (p : Place) : Type 0 where
  pub valid : Valid inst
  pub spots : AreSpots inst s
  pub table : IsTable inst cranes s t
  pub crane : p.crane < length inst.cranes
  pub order : p.first ≤ p.last
  pub within : p.last < length s.bays.items
  pub left : p.left ≡ own_of inst (left_of inst cranes)
  pub own_is : Some p.own ≡ own_of inst (own inst cranes p.crane)
  pub own_from : (j : ℕ) → j < length inst.tasks → in_row cranes (p.crane + 1) j ≡ true → p.first ≤ slice_index s.of_task.items j
  pub own_to : (j : ℕ) → j < length inst.tasks → in_row cranes (p.crane + 1) j ≡ true → slice_index s.of_task.items j ≤ p.last

-- what is known of a crane before its place is
pub record IsAround (inst : InstanceView) (cranes : List (Option ℕ)) (s : Spots) (t : Table) (w : ℕ) (o left : Option Own) : Type 0 where
  pub valid : Valid inst
  pub spots : AreSpots inst s
  pub table : IsTable inst cranes s t
  pub own_is : o ≡ own_of inst (own inst cranes w)
  pub left_is : left ≡ own_of inst (left_of inst cranes)

-- the stretch of spots that ends at spot k
abbrev pub stretch : InstanceView → Turn → List (Option ℕ) → Spots → Place → Direction → ℕ → ℕ
stretch inst turn cranes s p Up k =
    done_in inst turn cranes p.crane (spot_bay s.bays.items p.first) (spot_bay s.bays.items k)
stretch inst turn cranes s p Down k =
    done_in inst turn cranes p.crane (spot_bay s.bays.items k) (spot_bay s.bays.items p.last)

-- the greatest of a number and of some others
pub record IsGreatest (f : ℕ → ℕ) (from to start n : ℕ) : Type 0 where
  pub least : start ≤ n
  pub each : (k : ℕ) → from ≤ k → k < to → f k ≤ n
  pub some : (most : ℕ) → start ≤ most → ((k : ℕ) → from ≤ k → k < to → f k ≤ most) → n ≤ most

-- the spots of the first so many stretches: from one to before another
abbrev pub swept_from : Direction → Place → ℕ → ℕ
swept_from Up p steps = p.first
swept_from Down p steps = p.last + 1 - steps

abbrev pub swept_to : Direction → Place → ℕ → ℕ
swept_to Up p steps = p.first + steps
swept_to Down p steps = p.last + 1

-- the least bay up to which a stretch from the first spot holds all that no crane has and a task of the crane, and the
-- greatest from which one to the last spot does
abbrev pub least_high : Place → ℤ
least_high p = option_map_or (λ left. int_max left.high p.own.low) p.left p.own.low

abbrev pub most_low : Place → ℤ
most_low p = option_map_or (λ left. int_min left.low p.own.high) p.left p.own.high

-- a stretch from one bay to another that doesn't hold them
abbrev pub IsIdle : Direction → Place → ℤ → ℤ → Type 0
IsIdle Up p low high = high <ℤ least_high p
IsIdle Down p low high = most_low p <ℤ low

-- what the tasks of crane w come to before the spot behind a stretch, or from its first spot on
abbrev pub sum_along : Direction → Table → ℕ → ℕ → ℕ → Bars
sum_along Up t w low high = slice_index_or t.before.items (241 * (w + 1) + (high + 1)) past_bars
sum_along Down t w low high = slice_index_or t.from.items (241 * (w + 1) + low) past_bars

-- the spot of the next, and the spots from which to which it is
abbrev pub next_spot : Direction → Place → ℕ → ℕ
next_spot Up p steps = p.first + steps
next_spot Down p steps = p.last - steps

abbrev pub low_spot : Direction → Place → ℕ → ℕ
low_spot Up p steps = p.first
low_spot Down p steps = p.last - steps

abbrev pub high_spot : Direction → Place → ℕ → ℕ
high_spot Up p steps = p.first + steps
high_spot Down p steps = p.last
