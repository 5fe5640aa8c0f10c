-- A proof that `time_text` and the crate httpdate write the same text for a date.
use Rattle.std.proofs.Common.{◌≡◌, ℕ, zero, suc, ◌+◌, ◌-◌, ◌*◌, ◌/◌, ◌%◌, ◌<◌, ◌≤◌, true, false, nat_lt, cond, refl, sym, ap, ◌∙◌, arith}
use Rattle.std.proofs.lemmas.Bool.{ltb-true, ltb-false}
use Rattle.httpdate.specs.declared.parts.Parts.{Parts}
use Rattle.httpdate.specs.declared.date.HttpDate.{HttpDate}
use Rattle.httpdate.specs.Calendar.{IsCivilDate, days_of_years, days_of_months, days_from_civil, weekday}
use Rattle.httpdate.specs.Valid.{IsValid, parts_secs}
use Rattle.httpdate.specs.Date.{unix_secs, date_text}
use Rattle.httpdate.specs.Text.{imf_fixdate}
use Rattle.httpdate.proofs.CalendarLemmas.{days_from_civil_year, days_from_civil_month}
use Rattle.repl_log.specs.Time.{place_from, year_of, day_of_year, month_of, day_of_month, parts_of, time_text}

-- ---- rising sequences

rises_by : (f : ℕ → ℕ) → ((n : ℕ) → f n ≤ f (suc n)) → (a k : ℕ) → f a ≤ f (k + a)
rises_by f step a zero = let same : 0 + a ≡ a = omega arith in rw same (omega arith)
rises_by f step a (suc k) =
    let next : suc k + a ≡ suc (k + a) = omega arith in
    let before = rises_by f step a k in
    let more = step (k + a) in
    rw next (omega arith)

rises : (f : ℕ → ℕ) → ((n : ℕ) → f n ≤ f (suc n)) → (a b : ℕ) → a ≤ b → f a ≤ f b
rises f step a b h = let same : (b - a) + a ≡ b = omega arith in rw same at (rises_by f step a (b - a))

place_from-is : (f : ℕ → ℕ) → ((n : ℕ) → f n ≤ f (suc n)) → (left n x k : ℕ) → f k ≤ x → x < f (suc k) → n ≤ k → k ≤ n + left → place_from left n f x ≡ k
unfolding place_from
place_from-is f step zero n x k low high first last = omega arith
place_from-is f step (suc left) n x k low high first last =
    let next : n + 1 ≡ suc n = omega arith in
    elim (nat_lt x (f (n + 1))) as (λ b. nat_lt x (f (n + 1)) ≡ b → cond b n (place_from left (n + 1) f x) ≡ k) [
      | true ↦
          λ below.
          let under : x < f (suc n) = rw next at (ltb-true x (f (n + 1)) below) in
          let not_above : n < k → ⊥ = λ above. omega (arith, rises f step (suc n) k (omega arith)) in
          omega arith
      | false ↦
          λ passed.
          let over : f (suc n) ≤ x = rw next at (ltb-false x (f (n + 1)) passed) in
          let not_here : n ≡ k → ⊥ = λ here. omega (arith, ap (λ m. f (suc m)) here) in
          place_from-is f step left (n + 1) x k low high (omega arith) (omega arith)
    ] refl

years_rise : (n : ℕ) → days_of_years n ≤ days_of_years (suc n)
unfolding days_of_years
years_rise n = omega arith

months_rise : (year n : ℕ) → days_of_months year n ≤ days_of_months year (suc n)
unfolding days_of_months
months_rise year n = omega arith

-- ---- day of a date

year_of-civil : (y m d : ℕ) → IsCivilDate y m d → year_of (days_from_civil y m d) ≡ y
unfolding year_of days_of_months
year_of-civil y m d civil =
    let next : suc (y - 1970) ≡ suc y - 1970 = omega (arith, civil.0.0) in
    let before : days_from_civil y m d < days_from_civil (suc y) 1 1 = days_from_civil_year y m d (suc y) 1 1 civil (omega arith) in
    let high : days_from_civil y m d < days_of_years (suc (y - 1970)) = rw next (omega (arith, before)) in
    let place : place_from 8029 0 days_of_years (days_from_civil y m d) ≡ y - 1970 =
    place_from-is days_of_years years_rise 8029 0 (days_from_civil y m d) (y - 1970) (omega arith) high (omega arith) (omega (arith, civil.0.1)) in
    omega (arith, place, civil.0.0)

day_of_year-civil : (y m d : ℕ) → IsCivilDate y m d → day_of_year (days_from_civil y m d) ≡ days_of_months y (m - 1) + (d - 1)
unfolding day_of_year
day_of_year-civil y m d civil =
    let year : days_of_years (year_of (days_from_civil y m d) - 1970) ≡ days_of_years (y - 1970) = ap (λ n. days_of_years (n - 1970)) (year_of-civil y m d civil) in
    omega (arith, year)

month_of-civil : (y m d : ℕ) → IsCivilDate y m d → month_of (days_from_civil y m d) ≡ m
unfolding month_of
month_of-civil y m d civil =
    let rest = days_of_months y (m - 1) + (d - 1) in
    let same : m - 1 + 1 ≡ m = omega (arith, civil.1.0) in
    let next : suc (m - 1) ≡ suc m - 1 = omega (arith, civil.1.0) in
    let before : days_from_civil y m d < days_from_civil y (suc m) 1 = days_from_civil_month y m d (suc m) 1 civil (omega arith) in
    let high : rest < days_of_months y (suc (m - 1)) = rw next (omega (arith, before)) in
    let place : place_from 11 0 (days_of_months y) rest ≡ m - 1 =
    place_from-is (days_of_months y) (months_rise y) 11 0 rest (m - 1) (omega arith) high (omega arith) (omega (arith, civil.1.1)) in
    ap (λ n. 1 + place_from 11 0 (days_of_months n) (day_of_year (days_from_civil y m d))) (year_of-civil y m d civil)
    ∙ ap (λ n. 1 + place_from 11 0 (days_of_months y) n) (day_of_year-civil y m d civil)
    ∙ omega (arith, place, civil.1.0)

day_of_month-civil : (y m d : ℕ) → IsCivilDate y m d → day_of_month (days_from_civil y m d) ≡ d
unfolding day_of_month
day_of_month-civil y m d civil =
    ap (λ n. 1 + (n - days_of_months (year_of (days_from_civil y m d)) (month_of (days_from_civil y m d) - 1))) (day_of_year-civil y m d civil)
    ∙ ap (λ n. 1 + (days_of_months y (m - 1) + (d - 1) - days_of_months n (month_of (days_from_civil y m d) - 1))) (year_of-civil y m d civil)
    ∙ ap (λ n. 1 + (days_of_months y (m - 1) + (d - 1) - days_of_months y (n - 1))) (month_of-civil y m d civil)
    ∙ omega (arith, civil.2.0)

-- ---- the text

clock : (day hour min sec : ℕ) → hour < 24 → min < 60 → sec < 60 → ((day * 86400 + hour * 3600 + min * 60 + sec) / 86400 ≡ day) × ((day * 86400 + hour * 3600 + min * 60 + sec) % 86400 / 3600 ≡ hour) × ((day * 86400 + hour * 3600 + min * 60 + sec) % 3600 / 60 ≡ min) × ((day * 86400 + hour * 3600 + min * 60 + sec) % 60 ≡ sec)
clock day hour min sec a b c = (omega arith, omega arith, omega arith, omega arith)

parts_of-secs : (p : Parts) → IsValid p → parts_of (parts_secs p) ≡ p
unfolding parts_of
parts_of-secs p valid =
    let at = clock (days_from_civil p.year p.mon p.day) p.hour p.min p.sec valid.1.0 valid.1.1 valid.1.2 in
    let year = ap year_of at.0 ∙ year_of-civil p.year p.mon p.day valid.0 in
    let mon = ap month_of at.0 ∙ month_of-civil p.year p.mon p.day valid.0 in
    let day = ap day_of_month at.0 ∙ day_of_month-civil p.year p.mon p.day valid.0 in
    let wday = ap weekday at.0 ∙ sym valid.2 in
    λ i. record { year = year i; mon = mon i; day = day i; hour = at.1 i; min = at.2 i; sec = at.3 i; wday = wday i }

-- For every date, `time_text` maps the date's timestamp to the text that httpdate writes for the date.
pub time_text-date : (d : HttpDate) → time_text (unix_secs d) ≡ date_text d
unfolding time_text
time_text-date d = ap imf_fixdate (parts_of-secs d.parts (d.civil, d.time, d.right_day))
