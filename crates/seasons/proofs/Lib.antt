pub mod SeasonLaws
